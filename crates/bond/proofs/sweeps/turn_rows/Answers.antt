-- `bond::sweeps::turn_rows`: two rows are pairs side by side, and lie within the list (exact_row, exact_end, turn_rows_is).
use native.Mathlib.Nat.{mul-le-mul_right}
use native.Mathlib.Omega.{arith}
use Rattle.lists.proofs.Cells.{exact_row, exact_end}
use Rattle.bond.proofs.Rotations.{turn_rows_is}
use Rattle.bond.proofs.sweeps.turn_rows.Goals as goal

pub overflow_mul-p : goal.overflow_mul-p
overflow_mul-p c = exact_row _ _ _ _ c.requires.0 (omega arith) c.well_formed.0.0

pub overflow_mul-q : goal.overflow_mul-q
overflow_mul-q c = exact_row _ _ _ _ c.requires.0 c.requires.2 c.well_formed.0.0

pub turn_pairs-requires : goal.turn_pairs-requires
turn_pairs-requires c = omega (arith, exact_end _ _ _ _ c.requires.0 c.requires.2, mul-le-mul_right c.args.n c.requires.1)

pub returns : goal.returns
returns c = turn_rows_is _ _ _ _ _ _ _ c.requires.0 c.requires.1 c.requires.2 c.turn_pairs.ensures
