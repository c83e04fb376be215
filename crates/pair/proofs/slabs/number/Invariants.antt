-- `pair::slabs::number`: the invariant: the sum has the first im terms.
use Prim.Native.Nat.{ℕ, ◌-◌, ◌≤◌}
use mathlib.Core.Path.{◌≡◌}
use lib.Ieee.{Float}
use Rattle.lists.specs.Lists.{iter}
use Rattle.lists.specs.Floats.{cell}
use Rattle.pairform.specs.Slabs.{plus_product}
use Rattle.pair.proofs.slabs.number.Given as goal

abbrev pub invariant-loop-im : goal.invariant-loop-im
invariant-loop-im l = (l.im ≤ l.k) × (l.s ≡ iter l.im (λ (i : ℕ) (t : Float). plus_product t (cell l.k l.left l.row i) (cell l.w l.right i l.col)) l.initial.s)

abbrev pub decreases-loop-im : goal.decreases-loop-im
decreases-loop-im l = l.k - l.im
