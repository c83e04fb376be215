use borrow.Author.Rules.{rules}
use Rattle.lists.proofs.Demands.{passing}
use Rattle.shape.specs.Shapes.{point_size}
use Rattle.shape.specs.Cores.{points_at}
use Rattle.shape.proofs.Slotwise.{slotwise}
use Rattle.shape.proofs.Shape.first_not_finite_axis.Goals as goal

pub returns-then-not-all_finite : goal.returns-then-not-all_finite
unfolding points_at point_size
returns-then-not-all_finite c = search (rules, slotwise, passing)
