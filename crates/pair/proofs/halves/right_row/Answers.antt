use Rattle.lists.proofs.Turns.{turns}
use Rattle.lists.specs.Strips.{stored_from}
use Rattle.lists.proofs.Cells.{exacts}
use Rattle.pair.proofs.halves.right_row.Goals as goal

ruleset ways = (turns, exacts)

pub loop-i-init : goal.loop-i-init
unfolding stored_from
loop-i-init c = search ways

pub overflow_mul-out : goal.overflow_mul-out
unfolding stored_from
overflow_mul-out c = search ways

pub overflow_add-out : goal.overflow_add-out
unfolding stored_from
overflow_add-out c = search ways

pub offset_bounds-v-col : goal.offset_bounds-v-col
unfolding stored_from
offset_bounds-v-col c = search ways

pub bounds-v-col : goal.bounds-v-col
unfolding stored_from
bounds-v-col c = search ways

pub overflow_mul-out-in-loop-i : goal.overflow_mul-out-in-loop-i
unfolding stored_from
overflow_mul-out-in-loop-i c = search ways

pub overflow_add-out-in-loop-i : goal.overflow_add-out-in-loop-i
unfolding stored_from
overflow_add-out-in-loop-i c = search ways

pub offset_bounds-out-k : goal.offset_bounds-out-k
unfolding stored_from
offset_bounds-out-k c = search ways

pub bounds-out-k : goal.bounds-out-k
unfolding stored_from
bounds-out-k c = search ways

pub overflow_step-i : goal.overflow_step-i
unfolding stored_from
overflow_step-i c = search ways

pub loop-i-smaller : goal.loop-i-smaller
unfolding stored_from
loop-i-smaller c = search ways

pub loop-i-preserved : goal.loop-i-preserved
unfolding stored_from
loop-i-preserved c = search ways

pub shape_of-out : goal.shape_of-out
unfolding stored_from
shape_of-out c = search ways

pub returns : goal.returns
unfolding stored_from
returns c = search ways
