-- `pair::halves::right_core`: the invariant: the first k rows are stored, and after the last the front is the right half (rows_front), which is then looked at (front_stored).
use Prim.Native.Nat.{ℕ, ◌-◌, ◌*◌, ◌≤◌}
use mathlib.Core.Path.{◌≡◌}
use lib.ListN.{length, get_or}
use Rattle.lists.specs.Lists.{iter}
use Rattle.lists.specs.Floats.{cell}
use Rattle.lists.specs.Strips.{stored_from}
use Rattle.pair.proofs.halves.right_core.Given as goal

abbrev pub invariant-loop-k : goal.invariant-loop-k
invariant-loop-k l = (l.k ≤ l.r) × (length l.out ≡ length l.initial.out) × (l.out ≡ iter l.k (λ (j : ℕ). stored_from (j * l.n) l.n (λ (i : ℕ). cell l.n l.v (get_or l.js j 0) i)) l.initial.out)

abbrev pub decreases-loop-k : goal.decreases-loop-k
decreases-loop-k l = l.r - l.k
