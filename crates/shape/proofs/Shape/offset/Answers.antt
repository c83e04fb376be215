use borrow.Author.Rules.{rules}
use Rattle.shape.proofs.Offsets.{offsets}
use Rattle.shape.proofs.Shape.offset.Goals as goal

pub overflow_add-total : goal.overflow_add-total
overflow_add-total c = search (rules, offsets)
