-- `bond::values::dropped`: a place that there is is read (dropped_read); past the last one stands +0 (dropped_past).
use borrow.Author.Rules.{rules}
use Rattle.bond.proofs.Chosen.{dropped_read, dropped_past}
use Rattle.bond.proofs.values.dropped.Goals as goal

pub returns-then-r-ss : goal.returns-then-r-ss
returns-then-r-ss c = search (rules, dropped_read)

pub returns : goal.returns
returns c = search (rules, dropped_past)
