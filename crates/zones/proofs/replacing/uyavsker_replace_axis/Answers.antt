-- `zones::replacing::uyavsker_replace_axis`: run and axis turned into the core's, the call, and its answer turned back (axis_replaced_as).
use Rattle.stepform.specs.declared.Axis.{Axis}
use Rattle.runform.specs.declared.Run.{Run}
use Rattle.runform.specs.Slices.{slices}
use Rattle.runform.specs.Call.{replace_axis_call}
use Rattle.zones.proofs.Replaced.{axis_replaced_as}
use Rattle.zones.proofs.replacing.uyavsker_replace_axis.Goals as goal

pub returns : goal.returns
returns c = axis_replaced_as _ _ _ _ c.ran_out.ensures
    (λ (k : Run) (x : Axis). replace_axis_call k c.args.z x (slices c.args.source.now c.args.weights.now c.args.chain.now c.args.carries.now c.args.sums.now) c.args.scratch.now) _ _ _ _
    c.into.ensures c.into-2.ensures c.replace_axis.ensures
