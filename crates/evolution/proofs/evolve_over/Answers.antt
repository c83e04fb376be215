-- `evolution::evolve_over`: by the verdict of the checks (evolve_stops, evolve_goes).
use Rattle.evolution.proofs.Calls.{evolve_stops, evolve_goes}
use Rattle.evolution.proofs.evolve_over.Goals as goal

pub returns-in-Ok : goal.returns-in-Ok
returns-in-Ok c = evolve_goes _ _ _ _ _ _ _ _ _ _ _ _ c.course_finite-lone.ensures c.course_mild-mild.ensures c.course_settings-set.ensures _
    c.step_ok.ensures c.in-Ok.is _ _ _ c.work.ensures

pub returns-in-Err : goal.returns-in-Err
returns-in-Err c = evolve_stops _ _ _ _ _ _ _ _ _ _ _ _ c.course_finite-lone.ensures c.course_mild-mild.ensures c.course_settings-set.ensures _
    c.step_ok.ensures _ c.in-Err.is _ c.refused_rounding.ensures
