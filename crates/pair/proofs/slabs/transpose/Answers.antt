use Rattle.lists.proofs.Turns.{turns}
use Rattle.lists.proofs.Strips.{rows_whole}
use Rattle.pair.proofs.slabs.transpose.Goals as goal

pub loop-col-init : goal.loop-col-init
loop-col-init c = search turns

pub column-requires : goal.column-requires
column-requires c = search turns

pub overflow_step-col : goal.overflow_step-col
overflow_step-col c = search turns

pub loop-col-smaller : goal.loop-col-smaller
loop-col-smaller c = search turns

pub loop-col-preserved : goal.loop-col-preserved
loop-col-preserved c = search turns

pub shape_of-a : goal.shape_of-a
shape_of-a c = search turns

pub returns : goal.returns
returns c = rows_whole _ _ _ _ _ _ c.loop-col.invariant.2 c.loop-col.invariant.0 c.loop-col-test.false c.requires.1
