-- `product::contraction::add_weighed`: the invariant: the first t sums have their term (added_in).
use Prim.Native.Nat.{ℕ, ◌+◌, ◌≤◌}
use mathlib.Core.Path.{◌≡◌}
use lib.ListN.{length}
use Rattle.numbers.specs.Arithmetic.{times}
use Rattle.lists.specs.Floats.{at}
use Rattle.lists.specs.Strips.{added_in}
use Rattle.product.proofs.contraction.add_weighed.Given as goal

abbrev pub invariant-loop-t : goal.invariant-loop-t
invariant-loop-t l = (l.t ≤ l.h) × (length l.sums ≡ length l.initial.sums) × (l.sums ≡ added_in l.t (λ (k : ℕ). times (times l.x (at l.core (l.p + k))) l.y) l.initial.sums)
