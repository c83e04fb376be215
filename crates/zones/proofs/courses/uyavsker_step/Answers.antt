-- `zones::courses::uyavsker_step`: shape, settings and axes turned into the core's, the call over the axes lent (step_lent), and its answer turned back (steps_as).
use mathlib.Core.List.{List}
use Rattle.shape.specs.declared.Shape.{Shape}
use Rattle.stepform.specs.declared.Axis.{Axis}
use Rattle.stepform.specs.declared.Settings.{Settings}
use Rattle.stepform.specs.Call.{step_over}
use Rattle.records.specs.Given.{shape_in, settings_in}
use Rattle.zones.proofs.Faces.{steps_as, step_lent}
use Rattle.zones.proofs.courses.uyavsker_step.Goals as goal

pub returns : goal.returns
returns c = steps_as (λ (x : Shape) (t : Settings) (k : List Axis). step_over t x c.args.count k c.args.chain.now c.args.scratch.now) _ _ _ _ _ _ _ _ _ _ _
    c.into.ensures c.into-2.ensures c.lent-list.ensures
    (step_lent (settings_in c.args.set) (shape_in c.args.s) c.args.count c.args.xs.axis c.args.chain.now c.args.scratch.now) c.step_over.ensures c.rounded_out.ensures
