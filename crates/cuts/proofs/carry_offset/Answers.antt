use borrow.Author.Rules.{rules}
use Rattle.cutform.proofs.BondSlots.{carry-slots}
use Rattle.shape.proofs.Offsets.{offsets}
use Rattle.cuts.proofs.carry_offset.Goals as goal

ruleset ways = (rules, carry-slots, offsets)

pub loop-j-init : goal.loop-j-init
loop-j-init c = search ways

pub overflow_add-total : goal.overflow_add-total
overflow_add-total c = search ways

pub loop-j-preserved : goal.loop-j-preserved
loop-j-preserved c = search ways
