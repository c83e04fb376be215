-- `pair::halves::left_core`: the invariant: the first rows are stored, and after the last the front is the left half (rows_front), which is then looked at (front_stored).
use Prim.Native.Nat.{ℕ, ◌-◌, ◌*◌, ◌≤◌}
use mathlib.Core.Path.{◌≡◌}
use lib.ListN.{length, get_or}
use Rattle.numbers.specs.Arithmetic.{times}
use Rattle.lists.specs.Lists.{iter}
use Rattle.lists.specs.Floats.{at, cell}
use Rattle.lists.specs.Strips.{stored_from}
use Rattle.pairform.specs.Numbers.{inverse}
use Rattle.pair.proofs.halves.left_core.Given as goal

abbrev pub invariant-loop-row : goal.invariant-loop-row
invariant-loop-row l =
    (l.row ≤ l.m) × (length l.out ≡ length l.initial.out) × (l.out ≡ iter l.row (λ (i : ℕ). stored_from (i * l.r) l.r (λ (k : ℕ). times (times (cell l.m l.a (get_or l.js k 0) i) (inverse (at l.ss k))) (at l.ss k))) l.initial.out)

abbrev pub decreases-loop-row : goal.decreases-loop-row
decreases-loop-row l = l.m - l.row
