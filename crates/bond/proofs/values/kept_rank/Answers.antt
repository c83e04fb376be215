-- `bond::values::kept_rank`: the count of the values above the threshold, at least one (kept_one, kept_more).
use borrow.Author.Rules.{rules}
use Rattle.cutform.proofs.Ranked.{kept_one, kept_more}
use Rattle.bond.proofs.values.kept_rank.Goals as goal

pub returns-then-k-lt1 : goal.returns-then-k-lt1
returns-then-k-lt1 c = search (rules, kept_one)

pub returns : goal.returns
returns c = search (rules, kept_more)
