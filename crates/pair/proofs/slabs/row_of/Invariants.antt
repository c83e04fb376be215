-- `pair::slabs::row_of`: the invariant: the first col entries of the row are stored.
use Prim.Native.Nat.{◌-◌, ◌*◌, ◌≤◌}
use mathlib.Core.Path.{◌≡◌}
use lib.ListN.{length}
use Rattle.lists.specs.Strips.{stored_from}
use Rattle.pair.specs.SlabLoops.{slab_at}
use Rattle.pair.proofs.slabs.row_of.Given as goal

abbrev pub invariant-loop-col : goal.invariant-loop-col
invariant-loop-col l = (l.col ≤ l.w) × (length l.out ≡ length l.initial.out) × (l.out ≡ stored_from (l.row * l.w) l.col (slab_at l.left l.right l.k l.w l.row) l.initial.out)

abbrev pub decreases-loop-col : goal.decreases-loop-col
decreases-loop-col l = l.w - l.col
