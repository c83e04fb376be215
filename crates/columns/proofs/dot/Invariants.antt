-- `columns::dot`: the invariant: the sum is that of the rows passed.
use Prim.Native.Nat.{ℕ}
use mathlib.Core.Path.{◌≡◌}
use lib.Ieee.{Float}
use Rattle.numbers.specs.Arithmetic.{plus, times}
use Rattle.lists.specs.Lists.{iter}
use Rattle.lists.specs.Floats.{cell}
use Rattle.columns.proofs.dot.Given as goal

abbrev pub invariant-loop-row : goal.invariant-loop-row
invariant-loop-row l = (l.sum ≡ iter l.row (λ (i : ℕ) (s : Float). plus s (times (cell l.m l.a l.p i) (cell l.m l.a l.q i))) l.initial.sum)
