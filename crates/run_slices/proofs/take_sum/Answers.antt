-- `run_slices::take_sum`: before zone 0 there is nothing to take (none_left), and before any other the sum held there (left_taken).
use borrow.Author.Rules.{rules}
use Rattle.run_slices.proofs.Taken.{taking}
use Rattle.run_slices.proofs.take_sum.Goals as goal

ruleset ways = (rules, taking)

pub returns-then-z-lt1 : goal.returns-then-z-lt1
returns-then-z-lt1 c = search ways

pub copy_between-requires : goal.copy_between-requires
copy_between-requires c = search ways

pub returns : goal.returns
returns c = search ways
