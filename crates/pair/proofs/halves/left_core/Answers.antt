use Rattle.lists.proofs.Turns.{turns}
use native.Mathlib.Omega.{arith}
use Rattle.lists.proofs.Strips.{rows_front}
use Rattle.pair.specs.Rows.{left_rows}
use Rattle.pair.proofs.FormedHalves.{front_stored}
use Rattle.pair.proofs.halves.left_core.Goals as goal

pub loop-row-init : goal.loop-row-init
loop-row-init c = search turns

pub left_row-requires : goal.left_row-requires
left_row-requires c = (c.requires.0, c.requires.1, c.requires.2, c.requires.3, c.loop-row-test.true, omega (arith, c.loop-row.invariant.1, c.requires.4))

pub overflow_step-row : goal.overflow_step-row
overflow_step-row c = search turns

pub loop-row-smaller : goal.loop-row-smaller
loop-row-smaller c = search turns

pub loop-row-preserved : goal.loop-row-preserved
loop-row-preserved c = search turns

pub overflow_mul-e : goal.overflow_mul-e
overflow_mul-e c = search turns

pub slice_bounds-stored-count : goal.slice_bounds-stored-count
slice_bounds-stored-count c = search turns

pub slice_bounds-stored-start : goal.slice_bounds-stored-start
slice_bounds-stored-start c = search turns

pub slice_bounds-stored-end : goal.slice_bounds-stored-end
slice_bounds-stored-end c = omega (arith, c.requires.4, c.loop-row.invariant.1)

pub stored-requires : goal.stored-requires
stored-requires c = search turns

pub shape_of-out : goal.shape_of-out
shape_of-out c = search turns

pub returns : goal.returns
unfolding left_rows
returns c = front_stored _ _ _ _ _
    (rows_front _ _ _ _ _ _ c.loop-row.invariant.2 c.loop-row.invariant.0 c.loop-row-test.false
    c.requires.4) _ c.stored.ensures
