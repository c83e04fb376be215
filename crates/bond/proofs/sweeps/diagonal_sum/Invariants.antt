-- `bond::sweeps::diagonal_sum`: the invariant: the sum has the first i squares (iter_more, iter_done).
use Prim.Native.Nat.{ℕ}
use mathlib.Core.Path.{◌≡◌}
use lib.Ieee.{Float}
use Rattle.numbers.specs.Arithmetic.{plus, times}
use Rattle.lists.specs.Lists.{iter}
use Rattle.lists.specs.Floats.{cell}
use Rattle.bond.proofs.sweeps.diagonal_sum.Given as goal

abbrev pub invariant-loop-i : goal.invariant-loop-i
invariant-loop-i l = l.sum ≡ iter l.i (λ (j : ℕ) (x : Float). plus x (times (cell l.n l.g j j) (cell l.n l.g j j))) l.initial.sum
