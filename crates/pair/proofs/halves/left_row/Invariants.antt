-- `pair::halves::left_row`: the invariant: the first k entries of the row are stored; the places fit since a column of the list ends within it (exact_row, exact_lt).
use Prim.Native.Nat.{ℕ, ◌-◌, ◌*◌, ◌≤◌}
use mathlib.Core.Path.{◌≡◌}
use lib.ListN.{length, get_or}
use Rattle.numbers.specs.Arithmetic.{times}
use Rattle.lists.specs.Floats.{at, cell}
use Rattle.lists.specs.Strips.{stored_from}
use Rattle.pairform.specs.Numbers.{inverse}
use Rattle.pair.proofs.halves.left_row.Given as goal

abbrev pub invariant-loop-k : goal.invariant-loop-k
invariant-loop-k l =
    (l.k ≤ l.r) × (length l.out ≡ length l.initial.out) × (l.out ≡ stored_from (l.row * l.r) l.k (λ (j : ℕ). times (times (cell l.m l.a (get_or l.js j 0) l.row) (inverse (at l.ss j))) (at l.ss j)) l.initial.out)

abbrev pub decreases-loop-k : goal.decreases-loop-k
decreases-loop-k l = l.r - l.k
