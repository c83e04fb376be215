use Rattle.lists.proofs.Turns.{turns}
use Rattle.lists.proofs.Strips.{rows_front}
use Rattle.pair.proofs.slabs.rows_of.Goals as goal

pub loop-row-init : goal.loop-row-init
loop-row-init c = search turns

pub row_of-requires : goal.row_of-requires
row_of-requires c = search turns

pub overflow_step-row : goal.overflow_step-row
overflow_step-row c = search turns

pub loop-row-smaller : goal.loop-row-smaller
loop-row-smaller c = search turns

pub loop-row-preserved : goal.loop-row-preserved
loop-row-preserved c = search turns

pub shape_of-out : goal.shape_of-out
shape_of-out c = search turns

pub returns : goal.returns
returns c = rows_front _ _ _ _ _ _ c.loop-row.invariant.2 c.loop-row.invariant.0 c.loop-row-test.false c.requires.2
