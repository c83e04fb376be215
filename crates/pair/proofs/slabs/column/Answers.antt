use Rattle.lists.proofs.Turns.{turns}
use Rattle.lists.specs.Strips.{stored_from}
use Rattle.lists.proofs.Cells.{exacts}
use Rattle.pair.proofs.slabs.column.Goals as goal

ruleset ways = (turns, exacts)

pub loop-row-init : goal.loop-row-init
unfolding stored_from
loop-row-init c = search ways

pub overflow_mul-a : goal.overflow_mul-a
unfolding stored_from
overflow_mul-a c = search ways

pub overflow_add-a : goal.overflow_add-a
unfolding stored_from
overflow_add-a c = search ways

pub offset_bounds-s-row : goal.offset_bounds-s-row
unfolding stored_from
offset_bounds-s-row c = search ways

pub bounds-s-row : goal.bounds-s-row
unfolding stored_from
bounds-s-row c = search ways

pub overflow_mul-a-in-loop-row : goal.overflow_mul-a-in-loop-row
unfolding stored_from
overflow_mul-a-in-loop-row c = search ways

pub overflow_add-a-in-loop-row : goal.overflow_add-a-in-loop-row
unfolding stored_from
overflow_add-a-in-loop-row c = search ways

pub offset_bounds-a-col : goal.offset_bounds-a-col
unfolding stored_from
offset_bounds-a-col c = search ways

pub bounds-a-col : goal.bounds-a-col
unfolding stored_from
bounds-a-col c = search ways

pub overflow_step-row : goal.overflow_step-row
unfolding stored_from
overflow_step-row c = search ways

pub loop-row-smaller : goal.loop-row-smaller
unfolding stored_from
loop-row-smaller c = search ways

pub loop-row-preserved : goal.loop-row-preserved
unfolding stored_from
loop-row-preserved c = search ways

pub shape_of-a : goal.shape_of-a
unfolding stored_from
shape_of-a c = search ways

pub returns : goal.returns
unfolding stored_from
returns c = search ways
