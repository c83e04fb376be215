-- `bond::sweeps::put`: entry (i, j) lies within the list (exacts).
use borrow.Author.Rules.{rules}
use Rattle.lists.proofs.Cells.{exacts}
use Rattle.bond.proofs.sweeps.put.Goals as goal

pub overflow_mul-g : goal.overflow_mul-g
overflow_mul-g c = search (rules, exacts)

pub overflow_add-g : goal.overflow_add-g
overflow_add-g c = search (rules, exacts)

pub offset_bounds-g-i : goal.offset_bounds-g-i
offset_bounds-g-i c = search (rules, exacts)

pub bounds-g-i : goal.bounds-g-i
bounds-g-i c = search (rules, exacts)

pub shape_of-g : goal.shape_of-g
shape_of-g c = search (rules, exacts)

pub returns : goal.returns
returns c = search (rules, exacts)
