-- `zones::replacing::uyavsker_replace_core`: the run turned into the core's, the call, and its answer turned back (replaces_as).
use Rattle.runform.specs.declared.Run.{Run}
use Rattle.runform.specs.Slices.{slices}
use Rattle.runform.specs.Call.{replace_core_call}
use Rattle.zones.proofs.Replaced.{replaces_as}
use Rattle.zones.proofs.replacing.uyavsker_replace_core.Goals as goal

pub returns : goal.returns
returns c = replaces_as _ _ _ _ c.ran_out.ensures
    (λ (k : Run). replace_core_call k c.args.z (slices c.args.source.now c.args.weights.now c.args.chain.now c.args.carries.now c.args.sums.now) c.args.part.now c.args.scratch.now) _ _
    c.into.ensures c.replace_core.ensures
