use Rattle.lists.proofs.Turns.{turns}
use Rattle.lists.specs.Floats.{sum_on, sum_to}
use Rattle.lists.proofs.Cells.{exacts}
use Rattle.pairform.specs.Columns.{dot}
use Rattle.passes.proofs.three_sums.Goals as goal

ruleset ways = (turns, exacts)

pub loop-row-init : goal.loop-row-init
unfolding dot sum_to sum_on
loop-row-init c = search ways

pub overflow_mul-x : goal.overflow_mul-x
unfolding dot sum_to sum_on
overflow_mul-x c = search ways

pub overflow_add-x : goal.overflow_add-x
unfolding dot sum_to sum_on
overflow_add-x c = search ways

pub offset_bounds-a-p : goal.offset_bounds-a-p
unfolding dot sum_to sum_on
offset_bounds-a-p c = search ways

pub bounds-a-p : goal.bounds-a-p
unfolding dot sum_to sum_on
bounds-a-p c = search ways

pub overflow_mul-y : goal.overflow_mul-y
unfolding dot sum_to sum_on
overflow_mul-y c = search ways

pub overflow_add-y : goal.overflow_add-y
unfolding dot sum_to sum_on
overflow_add-y c = search ways

pub offset_bounds-a-q : goal.offset_bounds-a-q
unfolding dot sum_to sum_on
offset_bounds-a-q c = search ways

pub bounds-a-q : goal.bounds-a-q
unfolding dot sum_to sum_on
bounds-a-q c = search ways

pub overflow_mul-third : goal.overflow_mul-third
unfolding dot sum_to sum_on
overflow_mul-third c = search ways

pub overflow_add-third : goal.overflow_add-third
unfolding dot sum_to sum_on
overflow_add-third c = search ways

pub offset_bounds-a-w : goal.offset_bounds-a-w
unfolding dot sum_to sum_on
offset_bounds-a-w c = search ways

pub bounds-a-w : goal.bounds-a-w
unfolding dot sum_to sum_on
bounds-a-w c = search ways

pub overflow_step-row : goal.overflow_step-row
unfolding dot sum_to sum_on
overflow_step-row c = search ways

pub loop-row-smaller : goal.loop-row-smaller
unfolding dot sum_to sum_on
loop-row-smaller c = search ways

pub loop-row-preserved : goal.loop-row-preserved
unfolding dot sum_to sum_on
loop-row-preserved c = search ways

pub returns : goal.returns
unfolding dot sum_to sum_on
returns c = search ways
