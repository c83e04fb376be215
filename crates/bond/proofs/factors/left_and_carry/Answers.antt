-- `bond::factors::left_and_carry`: the columns are gathered and the left factor made; where it is finite the carry is made and looked at (factors_stop, factors_end).
use native.Mathlib.Omega.{arith}
use Rattle.std.proofs.lemmas.Result.{err_from_is_err_and}
use Rattle.bond.proofs.Finished.{rows_most, factors_stop, factors_end}
use Rattle.bond.proofs.factors.left_and_carry.Goals as goal

pub overflow_mul-rl : goal.overflow_mul-rl
overflow_mul-rl c = record { fits = omega (arith, rows_most _ _ _ c.requires.0 c.requires.1) }

pub returns-in_err-left_factor : goal.returns-in_err-left_factor
returns-in_err-left_factor c =
    let p = err_from_is_err_and c.from_residual.result c.from_residual.ensures.1 in
    rw (p.1, p.2) (factors_stop _ _ _ _ _ _ _ _ _ _ c.gather.ensures _ _ c.left_factor.ensures _ _ c.in_err-left_factor.was)

pub returns : goal.returns
returns c = factors_end _ _ _ _ _ _ _ _ _ _
    c.gather.ensures _ _ c.left_factor.ensures
    c.in_ok-left_factor.was _ _ c.carry_rows.ensures
    c.stored.ensures
