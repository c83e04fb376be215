use Rattle.lists.proofs.Turns.{turns}
use native.Mathlib.Numerals.{add-one}
use Rattle.lists.specs.Strips.{stored_from}
use Rattle.lists.proofs.Cells.{exacts, exact_row, exact_lt, exact_fits, exact_scaled}
use Rattle.pair.proofs.halves.left_row.Goals as goal

ruleset ways = (turns, exacts)

pub loop-k-init : goal.loop-k-init
unfolding stored_from
loop-k-init c = search ways

pub offset_bounds-js-k : goal.offset_bounds-js-k
unfolding stored_from
offset_bounds-js-k c = search ways

pub bounds-js-k : goal.bounds-js-k
unfolding stored_from
bounds-js-k c = search ways

pub overflow_mul-col : goal.overflow_mul-col
unfolding stored_from
overflow_mul-col c = exact_row _ _ _ _ c.requires.0 (c.requires.2 _ c.loop-k-test.true) c.well_formed.0.0

pub overflow_add-col : goal.overflow_add-col
unfolding stored_from
overflow_add-col c = exact_fits _ _ _ _ _ c.requires.0 (c.requires.2 _ c.loop-k-test.true) c.requires.4 c.well_formed.0.0

pub offset_bounds-a-col : goal.offset_bounds-a-col
unfolding stored_from
offset_bounds-a-col c = exact_scaled _ _ _ _ _ c.requires.0 (c.requires.2 _ c.loop-k-test.true) c.requires.4 c.well_formed.0.1

pub bounds-a-col : goal.bounds-a-col
unfolding stored_from
bounds-a-col c = exact_lt _ _ _ _ _ c.requires.0 (c.requires.2 _ c.loop-k-test.true) c.requires.4

pub offset_bounds-ss-k : goal.offset_bounds-ss-k
unfolding stored_from
offset_bounds-ss-k c = search ways

pub bounds-ss-k : goal.bounds-ss-k
unfolding stored_from
bounds-ss-k c = search ways

pub rescaled-requires : goal.rescaled-requires
unfolding stored_from
rescaled-requires c = search ways

pub overflow_mul-out : goal.overflow_mul-out
unfolding stored_from
overflow_mul-out c = search ways

pub overflow_add-out : goal.overflow_add-out
unfolding stored_from
overflow_add-out c = search ways

pub offset_bounds-out-row : goal.offset_bounds-out-row
unfolding stored_from
offset_bounds-out-row c = search ways

pub bounds-out-row : goal.bounds-out-row
unfolding stored_from
bounds-out-row c = search ways

pub overflow_step-k : goal.overflow_step-k
unfolding stored_from
overflow_step-k c = search ways

pub loop-k-smaller : goal.loop-k-smaller
unfolding stored_from
loop-k-smaller c = search ways

pub loop-k-preserved : goal.loop-k-preserved
unfolding stored_from
loop-k-preserved c = (search turns, search turns, rw add-one (cc))

pub shape_of-out : goal.shape_of-out
unfolding stored_from
shape_of-out c = search ways

pub returns : goal.returns
unfolding stored_from
returns c = search ways
