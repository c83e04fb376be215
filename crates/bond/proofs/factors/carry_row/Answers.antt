use Rattle.lists.proofs.Cells.{exacts}
use Rattle.lists.proofs.Turns.{turns}
use Rattle.lists.specs.Strips.{stored_from}
use Rattle.bond.proofs.factors.carry_row.Goals as goal

pub loop-j-init : goal.loop-j-init
unfolding stored_from
loop-j-init c = search (turns, exacts)

pub loop-j-preserved : goal.loop-j-preserved
unfolding stored_from
loop-j-preserved c = search (turns, exacts)
