use Rattle.lists.proofs.Cells.{exacts, exact_lt, exact_fits, exact_scaled}
use Rattle.lists.proofs.Turns.{turns}
use Rattle.lists.specs.Strips.{stored_from}
use Rattle.bond.proofs.factors.gather_row.Goals as goal

pub overflow_add-columns : goal.overflow_add-columns
unfolding stored_from
overflow_add-columns c = exact_fits _ _ _ _ _ c.requires.0 c.requires.4 (c.requires.2 _ c.loop-j-test.true) c.well_formed.0.0

pub offset_bounds-v-k : goal.offset_bounds-v-k
unfolding stored_from
offset_bounds-v-k c = exact_scaled _ _ _ _ _ c.requires.0 c.requires.4 (c.requires.2 _ c.loop-j-test.true) c.well_formed.0.1

pub bounds-v-k : goal.bounds-v-k
unfolding stored_from
bounds-v-k c = exact_lt _ _ _ _ _ c.requires.0 c.requires.4 (c.requires.2 _ c.loop-j-test.true)

pub loop-j-init : goal.loop-j-init
unfolding stored_from
loop-j-init c = search (turns, exacts)

pub loop-j-preserved : goal.loop-j-preserved
unfolding stored_from
loop-j-preserved c = search (turns, exacts)
