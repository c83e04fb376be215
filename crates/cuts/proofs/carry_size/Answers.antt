-- `cuts::carry_size`: by whether core k has a next one, as the definition asks; the square is small (carry-slots).
use borrow.Author.Rules.{rules}
use Rattle.cutform.proofs.BondSlots.{carry-slots}
use Rattle.cuts.proofs.carry_size.Goals as goal

ruleset ways = (rules, carry-slots)

pub returns-then-k-s : goal.returns-then-k-s
returns-then-k-s c = search ways

pub returns : goal.returns
returns c = search ways
