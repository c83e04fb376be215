-- `lists::each_finite`: the invariant: the flag says whether the numbers passed are finite (Flag).
use Rattle.lists.proofs.Seen.{Flag}
use Rattle.lists.proofs.each_finite.Given as goal

abbrev pub invariant-loop-x : goal.invariant-loop-x
invariant-loop-x l = Flag l.s l.x-index l.all
