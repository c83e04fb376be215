-- `cuts::carry_before`: left of core 0 nothing comes before (before_none); else it is the offset of the bond before (carry-slots).
use borrow.Author.Rules.{rules}
use Rattle.cutform.proofs.BondSlots.{carry-slots}
use Rattle.cuts.proofs.Stands.{before_none}
use Rattle.cuts.proofs.carry_before.Goals as goal

ruleset ways = (rules, carry-slots, before_none)

pub returns-then-k-lt1 : goal.returns-then-k-lt1
returns-then-k-lt1 c = search ways
