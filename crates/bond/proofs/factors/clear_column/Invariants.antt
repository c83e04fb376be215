-- `bond::factors::clear_column`: the invariant: the first i entries of the column are zero.
use Prim.Native.Nat.{ℕ, ◌+◌, ◌*◌}
use mathlib.Core.Path.{◌≡◌}
use mathlib.Core.List.{List}
use lib.ListN.{set}
use lib.Ieee.{Float}
use Rattle.numbers.specs.Arithmetic.{zero64}
use Rattle.lists.specs.Lists.{iter}
use Rattle.bond.proofs.factors.clear_column.Given as goal

abbrev pub invariant-loop-i : goal.invariant-loop-i
invariant-loop-i l = l.u ≡ iter l.i (λ (k : ℕ) (t : List Float). set t (k * l.r + l.j) zero64) l.initial.u
