-- `bond::factors::divide_column`: the invariant: the first i entries of the column are divided.
use Prim.Native.Nat.{ℕ, ◌+◌, ◌*◌}
use mathlib.Core.Path.{◌≡◌}
use mathlib.Core.List.{List}
use lib.ListN.{set}
use lib.Ieee.{Float}
use Rattle.numbers.specs.Arithmetic.{over}
use Rattle.lists.specs.Lists.{iter}
use Rattle.lists.specs.Floats.{at}
use Rattle.bond.proofs.factors.divide_column.Given as goal

abbrev pub invariant-loop-i : goal.invariant-loop-i
invariant-loop-i l = l.u ≡ iter l.i (λ (k : ℕ) (t : List Float). set t (k * l.r + l.j) (over (at t (k * l.r + l.j)) l.value)) l.initial.u
