use Rattle.std.proofs.lemmas.Result.{err_from_is_err_and}
use Rattle.answers.specs.Outcome.{outcome_of}
use Rattle.bond.proofs.Swept.{sweeps_start, sweeps_settled, sweeps_idle, sweeps_stop, sweeps_more, sweeps_done}
use Rattle.bond.proofs.sweeps.diagonalize.Goals as goal

pub loop-count-init : goal.loop-count-init
loop-count-init c = record { settles = c.settled-settles.ensures; left = sweeps_start _ _ _ _ c.settled-settles.ensures }

pub returns-then-settles : goal.returns-then-settles
unfolding outcome_of
returns-then-settles c = sweeps_settled _ _ _ _ _ _ _ c.loop-count.invariant.left c.loop-count-test.true c.if-settles.true

pub returns-then-still : goal.returns-then-still
unfolding outcome_of
returns-then-still c = sweeps_idle _ _ _ _ _ _ _ _ _
    c.loop-count.invariant.left
    c.loop-count-test.true
    c.loop-count.invariant.settles
    c.if-settles.false c.still.ensures
    c.if-still.true

pub returns-in_err-jacobi_sweep : goal.returns-in_err-jacobi_sweep
unfolding outcome_of
returns-in_err-jacobi_sweep c =
    let p = err_from_is_err_and c.from_residual.result c.from_residual.ensures.1 in
    rw (p.1, p.2)
    (sweeps_stop _ _ _ _ _ _ _
    c.loop-count.invariant.left
    c.loop-count-test.true
    c.if-settles.false _ _
    c.jacobi_sweep.ensures _
    c.in_err-jacobi_sweep.was)

pub loop-count-preserved : goal.loop-count-preserved
loop-count-preserved c = record {
  settles = c.settled-settles-in-loop-count.ensures;
  left = sweeps_more _ _ _ _ _ _ _
      c.loop-count.invariant.left
      c.loop-count-test.true
      c.if-settles.false _ _
      c.jacobi_sweep.ensures c.in_ok-jacobi_sweep.was _
      c.settled-settles-in-loop-count.ensures;
}

pub returns : goal.returns
unfolding outcome_of
returns c = sweeps_done _ _ _ _ _ _ _ c.loop-count.invariant.left c.loop-count.auto.count-end c.loop-count-test.false
