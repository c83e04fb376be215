use borrow.Author.Rules.{rules}
use Rattle.columns.proofs.TwoColumns.{skipped_near}
use Rattle.columns.proofs.skipped.Goals as goal

pub returns : goal.returns
returns c = search (rules, skipped_near)
