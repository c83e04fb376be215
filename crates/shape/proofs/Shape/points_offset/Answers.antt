use borrow.Author.Rules.{rules}
use Rattle.shape.specs.Shapes.{point_size}
use Rattle.shape.proofs.Offsets.{offsets}
use Rattle.shape.proofs.Shape.points_offset.Goals as goal

pub overflow_add-total : goal.overflow_add-total
unfolding point_size
overflow_add-total c = search (rules, offsets)
