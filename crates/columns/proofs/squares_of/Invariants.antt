-- `columns::squares_of`: the invariant: both sums are those of the rows passed.
use Prim.Native.Nat.{ℕ}
use mathlib.Core.Path.{◌≡◌}
use lib.Ieee.{Float}
use Rattle.numbers.specs.Arithmetic.{plus, times}
use Rattle.lists.specs.Lists.{iter}
use Rattle.lists.specs.Floats.{cell}
use Rattle.columns.proofs.squares_of.Given as goal

abbrev pub invariant-loop-row : goal.invariant-loop-row
invariant-loop-row l =
    (l.first ≡ iter l.row (λ (i : ℕ) (s : Float). plus s (times (cell l.m l.a l.p i) (cell l.m l.a l.p i))) l.initial.first) ×
    (l.second ≡ iter l.row (λ (i : ℕ) (s : Float). plus s (times (cell l.m l.a l.q i) (cell l.m l.a l.q i))) l.initial.second)
