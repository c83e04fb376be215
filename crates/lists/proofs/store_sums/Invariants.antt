-- `lists::store_sums`: the invariant: the first t sums stand from e on (stored_from).
use Prim.Native.Nat.{◌-◌, ◌≤◌}
use mathlib.Core.Path.{◌≡◌}
use lib.ListN.{length}
use Rattle.lists.specs.Floats.{at}
use Rattle.lists.specs.Strips.{stored_from}
use Rattle.lists.proofs.store_sums.Given as goal

abbrev pub invariant-loop-t : goal.invariant-loop-t
invariant-loop-t l = (l.t ≤ l.h) × (length l.out ≡ length l.initial.out) × (l.out ≡ stored_from l.e l.t (at l.sums) l.initial.out)

abbrev pub decreases-loop-t : goal.decreases-loop-t
decreases-loop-t l = l.h - l.t
