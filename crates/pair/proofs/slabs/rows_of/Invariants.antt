-- `pair::slabs::rows_of`: the invariant: the first rows are stored, and after the last the front is the slab (rows_front).
use Prim.Native.Nat.{ℕ, ◌-◌, ◌*◌, ◌≤◌}
use mathlib.Core.Path.{◌≡◌}
use lib.ListN.{length}
use Rattle.lists.specs.Lists.{iter}
use Rattle.lists.specs.Strips.{stored_from}
use Rattle.pair.specs.SlabLoops.{slab_at}
use Rattle.pair.proofs.slabs.rows_of.Given as goal

abbrev pub invariant-loop-row : goal.invariant-loop-row
invariant-loop-row l = (l.row ≤ l.m) × (length l.out ≡ length l.initial.out) × (l.out ≡ iter l.row (λ (i : ℕ). stored_from (i * l.w) l.w (slab_at l.left l.right l.k l.w i)) l.initial.out)

abbrev pub decreases-loop-row : goal.decreases-loop-row
decreases-loop-row l = l.m - l.row
