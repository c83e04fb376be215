-- `bond::sweeps::number_at`: entry (i, j) lies within the list (exacts).
use borrow.Author.Rules.{rules}
use Rattle.lists.proofs.Cells.{exacts}
use Rattle.bond.proofs.sweeps.number_at.Goals as goal

pub overflow_mul-result : goal.overflow_mul-result
overflow_mul-result c = search (rules, exacts)

pub overflow_add-result : goal.overflow_add-result
overflow_add-result c = search (rules, exacts)

pub offset_bounds-g-i : goal.offset_bounds-g-i
offset_bounds-g-i c = search (rules, exacts)

pub bounds-g-i : goal.bounds-g-i
bounds-g-i c = search (rules, exacts)

pub returns : goal.returns
returns c = search (rules, exacts)
