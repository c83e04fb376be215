-- `bond::values::threshold`: the two cases of the test are those of the definition (picks).
use borrow.Author.Rules.{rules}
use Rattle.lists.proofs.Picks.{picks}
use Rattle.cutform.specs.Values.{threshold_of}
use Rattle.bond.proofs.values.threshold.Goals as goal

pub returns-then-largest : goal.returns-then-largest
unfolding threshold_of
returns-then-largest c = search (rules, picks)

pub returns : goal.returns
unfolding threshold_of
returns c = search (rules, picks)
