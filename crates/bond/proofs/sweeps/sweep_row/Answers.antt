use Rattle.std.proofs.lemmas.Result.{err_from_is_err_and}
use mathlib.Core.Path.{refl}
use Rattle.bond.specs.SweepRows.{sweep_row}
use Rattle.lists.proofs.Stages.{stage_more, stage_stop, stage_done}
use Rattle.bond.proofs.sweeps.sweep_row.Goals as goal

pub loop-q-init : goal.loop-q-init
unfolding sweep_row
loop-q-init c = refl

pub returns-in_err-rotate : goal.returns-in_err-rotate
returns-in_err-rotate c =
    let p = err_from_is_err_and c.from_residual.result c.from_residual.ensures.1 in
    rw (p.1, p.2)
    (stage_stop _ _ _ _ _ c.loop-q.invariant c.loop-q-test.true _ _ c.rotate.ensures _ _ c.in_err-rotate.was)

pub loop-q-preserved : goal.loop-q-preserved
loop-q-preserved c = stage_more _ _ _ _ _ c.loop-q.invariant c.loop-q-test.true _ _ c.rotate.ensures c.in_ok-rotate.was

pub returns : goal.returns
returns c = stage_done _ _ _ _ _ c.loop-q.invariant c.loop-q-test.false
