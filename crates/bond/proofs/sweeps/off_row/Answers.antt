use Rattle.lists.proofs.Turns.{turns, from_more}
use Rattle.bond.specs.SweepRows.{off_row}
use Rattle.bond.proofs.sweeps.off_row.Goals as goal

pub loop-q-preserved : goal.loop-q-preserved
unfolding off_row
loop-q-preserved c = from_more _ _ _ _ _ _ c.loop-q.invariant (rw c.number_at-x.ensures) c.loop-q.auto.q

pub loop-q-init : goal.loop-q-init
unfolding off_row
loop-q-init c = search turns

pub returns : goal.returns
unfolding off_row
returns c = search turns
