-- `numbers::grown`: below 128 the square fits, and whether it exceeds n decides which half of the interval the root is in.
use Prim.Native.Nat.{◌+◌, ◌≤◌}
use native.Mathlib.Nat.{mul-le-mul}
use native.Mathlib.Omega.{arith}
use Rattle.numbers.proofs.grown.Goals as goal

pub overflow_mul-r : goal.overflow_mul-r
overflow_mul-r c = let h : c.args.q + c.args.d ≤ 128 = omega arith in
    omega (arith, mul-le-mul h h)
