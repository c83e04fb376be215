-- `product::sums::sum_from`: the invariant: what is left of the walk from z is the walk from k on the sums so far (answer_more); a zone that refuses stops it (answer_stop).
use mathlib.Core.Path.{◌≡◌}
use Prim.Native.Nat.{◌-◌, ◌≤◌}
use Rattle.sumform.specs.Sums.{sums_from}
use lib.ListN.{length}
use Rattle.lists.specs.Walks.{turning}
use Rattle.product.specs.Lent.{sum_turn}
use Rattle.product.proofs.sums.sum_from.Given as goal

abbrev pub invariant-loop-k : goal.invariant-loop-k
invariant-loop-k l = (length l.sums ≡ length l.initial.sums) × (l.k ≤ l.s.d) × (sums_from l.s l.t l.work l.weights l.z l.initial.sums ≡ turning (l.s.d - l.k) l.k (sum_turn l.s l.t l.work l.weights) l.sums)
