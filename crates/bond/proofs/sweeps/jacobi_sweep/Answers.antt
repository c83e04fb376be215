use Rattle.std.proofs.lemmas.Result.{err_from_is_err_and}
use Rattle.lists.proofs.Stages.{stage_more, stage_stop, stage_done}
use Rattle.bond.proofs.Swept.{sweep_rows}
use Rattle.bond.proofs.sweeps.jacobi_sweep.Goals as goal

pub loop-p-init : goal.loop-p-init
loop-p-init c = sweep_rows _ _ _

pub returns-in_err-sweep_row : goal.returns-in_err-sweep_row
returns-in_err-sweep_row c =
    let p = err_from_is_err_and c.from_residual.result c.from_residual.ensures.1 in
    rw (p.1, p.2)
    (stage_stop _ _ _ _ _ c.loop-p.invariant c.loop-p-test.true _ _ c.sweep_row.ensures _ _ c.in_err-sweep_row.was)

pub loop-p-preserved : goal.loop-p-preserved
loop-p-preserved c = stage_more _ _ _ _ _ c.loop-p.invariant c.loop-p-test.true _ _ c.sweep_row.ensures c.in_ok-sweep_row.was

pub returns : goal.returns
returns c = stage_done _ _ _ _ _ c.loop-p.invariant c.loop-p-test.false
