-- `bond::factors::left_factor`: the product, finished, is the left factor (left_is), which is then looked at.
use native.Mathlib.Nat.{mul-le-mul_left}
use native.Mathlib.Omega.{arith}
use lib.ListN.{length-append}
use Rattle.bond.proofs.Finished.{grid_long, left_is}
use Rattle.bond.proofs.factors.left_factor.Goals as goal

pub overflow_mul-e : goal.overflow_mul-e
overflow_mul-e c = record
    { fits = omega (arith, mul-le-mul_left c.args.m c.requires.2) }

pub slice_bounds-finish-end : goal.slice_bounds-finish-end
slice_bounds-finish-end c = omega (
  arith,
  mul-le-mul_left c.args.m
      c.requires.2,
)

pub slice_bounds-stored-end : goal.slice_bounds-stored-end
slice_bounds-stored-end c = simp length-append (omega (arith, grid_long _ _ _ _ c.finish.ensures))

pub returns : goal.returns
returns c = left_is _ _ _ _ _ _ _ _ _ _ _ c.multiply.ensures c.finish.ensures c.stored.ensures
