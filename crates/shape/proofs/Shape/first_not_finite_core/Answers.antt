use borrow.Author.Rules.{rules}
use Rattle.lists.proofs.Demands.{passing}
use Rattle.shape.specs.Cores.{core_at}
use Rattle.shape.proofs.Slotwise.{slotwise}
use Rattle.shape.proofs.Shape.first_not_finite_core.Goals as goal

pub returns-then-not-all_finite : goal.returns-then-not-all_finite
unfolding core_at
returns-then-not-all_finite c = search (rules, slotwise, passing)
