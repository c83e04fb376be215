-- `zones::courses::uyavsker_evolve`: shape, course and axes turned into the core's, the call over the axes lent (evolve_lent), and its answer turned back (steps_as).
use mathlib.Core.List.{List}
use Rattle.shape.specs.declared.Shape.{Shape}
use Rattle.stepform.specs.declared.Axis.{Axis}
use Rattle.stepform.specs.declared.Course.{Course}
use Rattle.stepform.specs.Call.{evolve_over}
use Rattle.records.specs.Given.{shape_in, course_in}
use Rattle.zones.proofs.Faces.{steps_as, evolve_lent}
use Rattle.zones.proofs.courses.uyavsker_evolve.Goals as goal

pub returns : goal.returns
returns c = steps_as (λ (x : Shape) (p : Course) (k : List Axis). evolve_over p.t_final p.steps p.c p.cutting x c.args.count k c.args.chain.now c.args.scratch.now) _ _ _ _ _ _ _ _ _ _ _
    c.into.ensures c.into-2.ensures c.lent-list.ensures
    (evolve_lent (course_in c.args.p) (shape_in c.args.s) c.args.count c.args.xs.axis c.args.chain.now c.args.scratch.now) c.evolve_over.ensures c.rounded_out.ensures
