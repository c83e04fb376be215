-- `bond::values::singular`: the two cases of the test are those of the definition (picks).
use borrow.Author.Rules.{rules}
use Rattle.lists.proofs.Picks.{picks}
use Rattle.cutform.specs.Values.{singular_of}
use Rattle.bond.proofs.values.singular.Goals as goal

pub returns-then-x : goal.returns-then-x
unfolding singular_of
returns-then-x c = search (rules, picks)

pub returns : goal.returns
unfolding singular_of
returns c = search (rules, picks)
