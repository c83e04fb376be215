-- `zones::replacing::uyavsker_fresh_run`: shape, axes and settings turned into the core's, the call, and its answer turned back (runs_as).
use mathlib.Core.List.{List}
use Rattle.shape.specs.declared.Shape.{Shape}
use Rattle.stepform.specs.declared.Axis.{Axis}
use Rattle.stepform.specs.declared.Settings.{Settings}
use Rattle.runform.specs.Slices.{slices}
use Rattle.runform.specs.Call.{fresh_call}
use Rattle.zones.proofs.Replaced.{runs_as}
use Rattle.zones.proofs.replacing.uyavsker_fresh_run.Goals as goal

pub returns : goal.returns
returns c = runs_as _ _ _ _ c.ran_out.ensures
    (λ (x : Shape) (k : List Axis) (t : Settings). fresh_call x k t (slices c.args.source.now c.args.weights.now c.args.chain.now c.args.carries.now c.args.sums.now) c.args.scratch.now) _ _ _ _ _ _
    c.into.ensures c.into-2.ensures c.into-3.ensures c.fresh_run.ensures
