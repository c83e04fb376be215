-- `listing::put_axes`: the invariant: the lines of the first k axes stand, and the next body's start is known (AtAxis, axes_more).
use Rattle.listing.proofs.Grows.{AtAxis}
use Rattle.listing.proofs.put_axes.Given as goal

abbrev pub invariant-loop-k : goal.invariant-loop-k
invariant-loop-k l = AtAxis l.s l.at l.initial.text l.text l.start l.end l.k
