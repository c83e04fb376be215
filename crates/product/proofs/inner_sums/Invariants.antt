-- `product::inner_sums`: the invariant: eta holds the sums of the first k axes and the next offsets are known (AtAxis); an axis that is not finite stops it (axis_stops).
use Rattle.product.proofs.Walking.{AtAxis}
use Rattle.product.proofs.inner_sums.Given as goal

abbrev pub invariant-loop-k : goal.invariant-loop-k
invariant-loop-k l = AtAxis l.s l.chain l.weights l.eta l.rank l.at l.points l.k
