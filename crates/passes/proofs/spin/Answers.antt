-- `passes::spin`: by its plan the columns stay or are turned (by_none, by_turn), and two sums of squares follow (squared_spun).
use borrow.Author.Rules.{rules}
use Rattle.passes.proofs.Spun.{by_none, by_turn, squared_spun}
use Rattle.passes.proofs.spin.Goals as goal

ruleset ways = (rules, by_none, by_turn, squared_spun)

pub returns-in_default : goal.returns-in_default
returns-in_default c = search ways

pub returns : goal.returns
returns c = search ways
