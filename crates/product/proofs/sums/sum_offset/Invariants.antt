-- `product::sums::sum_offset`: the invariant: the total is the offset of slot j.
use mathlib.Core.Path.{◌≡◌}
use Prim.Native.Nat.{◌≤◌}
use Rattle.lists.specs.Slots.{offset}
use Rattle.sumform.specs.Sums.{sum_size}
use Rattle.product.proofs.sums.sum_offset.Given as goal

abbrev pub invariant-loop-j : goal.invariant-loop-j
invariant-loop-j l = (l.j ≤ l.k) × (l.total ≡ offset (sum_size l.s) l.j)
