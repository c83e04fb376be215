use Rattle.lists.proofs.Turns.{turns}
use native.Mathlib.Omega.{arith}
use Rattle.lists.proofs.Strips.{rows_front}
use Rattle.pair.specs.Rows.{right_rows}
use Rattle.pair.proofs.FormedHalves.{front_stored}
use Rattle.pair.proofs.halves.right_core.Goals as goal

pub loop-k-init : goal.loop-k-init
loop-k-init c = search turns

pub offset_bounds-js-k : goal.offset_bounds-js-k
offset_bounds-js-k c = search turns

pub bounds-js-k : goal.bounds-js-k
bounds-js-k c = search turns

pub right_row-requires : goal.right_row-requires
right_row-requires c = (
  c.requires.0,
  c.requires.2 _ c.loop-k-test.true,
  c.loop-k-test.true,
  omega
      (arith, c.loop-k.invariant.1, c.requires.3),
)

pub overflow_step-k : goal.overflow_step-k
overflow_step-k c = search turns

pub loop-k-smaller : goal.loop-k-smaller
loop-k-smaller c = search turns

pub loop-k-preserved : goal.loop-k-preserved
loop-k-preserved c = search turns

pub overflow_mul-e : goal.overflow_mul-e
overflow_mul-e c = search turns

pub slice_bounds-stored-count : goal.slice_bounds-stored-count
slice_bounds-stored-count c = search turns

pub slice_bounds-stored-start : goal.slice_bounds-stored-start
slice_bounds-stored-start c = search turns

pub slice_bounds-stored-end : goal.slice_bounds-stored-end
slice_bounds-stored-end c = omega (arith, c.requires.3, c.loop-k.invariant.1)

pub stored-requires : goal.stored-requires
stored-requires c = search turns

pub shape_of-out : goal.shape_of-out
shape_of-out c = search turns

pub returns : goal.returns
unfolding right_rows
returns c = front_stored _ _ _ _ _
    (rows_front _ _ _ _ _ _ c.loop-k.invariant.2 c.loop-k.invariant.0 c.loop-k-test.false
    c.requires.3) _ c.stored.ensures
