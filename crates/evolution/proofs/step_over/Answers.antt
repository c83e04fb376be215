-- `evolution::step_over`: by the verdict of the checks (step_stops, step_goes).
use Rattle.evolution.proofs.Calls.{step_stops, step_goes}
use Rattle.evolution.proofs.step_over.Goals as goal

pub returns-in-Ok : goal.returns-in-Ok
returns-in-Ok c = step_goes _ _ _ _ _ _ _ _ c.lone_finite-lone.ensures c.lone_ok-mild.ensures _ c.step_ok.ensures c.in-Ok.is _ _ _ c.work_once.ensures

pub returns-in-Err : goal.returns-in-Err
returns-in-Err c = step_stops _ _ _ _ _ _ _ _ c.lone_finite-lone.ensures c.lone_ok-mild.ensures _ c.step_ok.ensures _ c.in-Err.is _ c.refused_rounding.ensures
