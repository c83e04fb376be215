-- `passes::turn_basis`: by its plan the basis stays or is turned (by_none, by_turn).
use borrow.Author.Rules.{rules}
use Rattle.passes.proofs.Spun.{by_none, by_turn}
use Rattle.passes.proofs.turn_basis.Goals as goal

ruleset ways = (rules, by_none, by_turn)

pub returns-in-Some : goal.returns-in-Some
returns-in-Some c = search ways

pub returns-in_default : goal.returns-in_default
returns-in_default c = search ways
