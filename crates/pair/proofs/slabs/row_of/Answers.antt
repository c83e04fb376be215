use Rattle.lists.proofs.Turns.{turns}
use native.Mathlib.Numerals.{add-one}
use Rattle.lists.specs.Strips.{stored_from}
use Rattle.lists.proofs.Cells.{exacts}
use Rattle.pair.proofs.slabs.row_of.Goals as goal

ruleset ways = (turns, exacts)

pub loop-col-init : goal.loop-col-init
unfolding stored_from
loop-col-init c = search ways

pub number-requires : goal.number-requires
unfolding stored_from
number-requires c = search ways

pub overflow_mul-out : goal.overflow_mul-out
unfolding stored_from
overflow_mul-out c = search ways

pub overflow_add-out : goal.overflow_add-out
unfolding stored_from
overflow_add-out c = search ways

pub offset_bounds-out-row : goal.offset_bounds-out-row
unfolding stored_from
offset_bounds-out-row c = search ways

pub bounds-out-row : goal.bounds-out-row
unfolding stored_from
bounds-out-row c = search ways

pub overflow_step-col : goal.overflow_step-col
unfolding stored_from
overflow_step-col c = search ways

pub loop-col-smaller : goal.loop-col-smaller
unfolding stored_from
loop-col-smaller c = search ways

pub loop-col-preserved : goal.loop-col-preserved
unfolding stored_from
loop-col-preserved c = (search turns, search turns, rw add-one (cc))

pub shape_of-out : goal.shape_of-out
unfolding stored_from
shape_of-out c = search ways

pub returns : goal.returns
unfolding stored_from
returns c = search ways
