-- `columns::turn`: strips of 16 rows, then twos, then the last row, each fitting in its column (columns_apart), are all rows turned (all_turned, turn_is).
use native.Mathlib.Omega.{arith}
use Rattle.lists.proofs.Cells.{exact_row}
use Rattle.columns.proofs.Strips.{columns_apart, first_fits, second_fits, all_turned}
use Rattle.columns.proofs.TwoColumns.{turn_is}
use Rattle.columns.proofs.turn.Goals as goal

pub overflow_mul-i : goal.overflow_mul-i
overflow_mul-i c = exact_row _ _ _ _ c.requires.0 (omega arith) c.well_formed.0.0

pub overflow_mul-j : goal.overflow_mul-j
overflow_mul-j c = exact_row _ _ _ _ c.requires.0 c.requires.2 c.well_formed.0.0

pub turn_strips-requires : goal.turn_strips-requires
turn_strips-requires c = let apart = columns_apart _ _ _ _ _ c.requires.0 c.requires.1 c.requires.2 in
    (omega arith, omega arith)

pub overflow_add-i : goal.overflow_add-i
overflow_add-i c = first_fits _ _ _ _ _ _ c.requires.0 c.requires.1 c.requires.2 (omega arith) c.well_formed.0.0

pub overflow_add-j : goal.overflow_add-j
overflow_add-j c = second_fits _ _ _ _ _ _ c.requires.0 c.requires.1 c.requires.2 (omega arith) c.well_formed.0.0

pub turn_twos-requires : goal.turn_twos-requires
turn_twos-requires c = let apart = columns_apart _ _ _ _ _ c.requires.0 c.requires.1 c.requires.2 in
    (omega arith, omega arith)

pub overflow_add-i-2 : goal.overflow_add-i-2
overflow_add-i-2 c = first_fits _ _ _ _ _ _ c.requires.0 c.requires.1 c.requires.2 (omega arith) c.well_formed.0.0

pub overflow_add-j-2 : goal.overflow_add-j-2
overflow_add-j-2 c = second_fits _ _ _ _ _ _ c.requires.0 c.requires.1 c.requires.2 (omega arith) c.well_formed.0.0

pub turn_pairs-requires : goal.turn_pairs-requires
turn_pairs-requires c = let apart = columns_apart _ _ _ _ _ c.requires.0 c.requires.1 c.requires.2 in
    (omega arith, omega arith)

pub returns : goal.returns
returns c = turn_is _ _ _ _ _ _ _ _ c.requires.0 c.requires.1 c.requires.2
    (all_turned _ _ _ _ _ _ _ _ _ c.turn_strips.ensures c.turn_twos.ensures c.turn_pairs.ensures)
