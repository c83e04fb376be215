-- `passes::careful::apply_jacobi_rotation`: columns and basis are turned and looked at (turned_stop, turned_end); elsewhere nothing changed, so the two columns' sums of squares tell.
use native.Mathlib.Omega.{arith}
use Rattle.std.proofs.lemmas.Result.{err_from_is_err_and}
use Rattle.answers.specs.Outcome.{staged}
use Rattle.columns.proofs.TwoColumns.{squares_length, turned_length, turned_elsewhere, turned_squares}
use Rattle.passes.proofs.Rotated.{turned_stop, turned_end}
use Rattle.passes.proofs.careful.apply_jacobi_rotation.Goals as goal

pub square_again-requires : goal.square_again-requires
square_again-requires c = (
  turned_length _ _ _ _ _ _ _ _ c.turn.ensures,
  c.requires.0.count,
  omega (arith, c.requires.1, c.requires.2),
  c.requires.2,
  turned_squares _ _
      _ _ _ _ _ _ c.turn.ensures _ c.requires.0.kept,
)

pub stored_squared-requires : goal.stored_squared-requires
stored_squared-requires c = (
  turned_length _ _ _ _ _ _ _ _ c.turn.ensures,
  omega (arith, c.requires.1, c.requires.2),
  c.requires.2,
  turned_elsewhere _ _ _ _ _ _ _ _
      c.turn.ensures c.requires.0.long c.requires.0.fine,
  c.square_again.ensures,
  squares_length _ _ _ _ c.square_again.ensures,
)

pub returns-in_err-stored_squared : goal.returns-in_err-stored_squared
unfolding staged
returns-in_err-stored_squared c =
    let p = err_from_is_err_and c.from_residual.result c.from_residual.ensures.1 in
    rw (p.1, p.2) (turned_stop _ _ _ _ _ _ _ _ _ _ c.turn.ensures c.turn-2.ensures _ c.stored_squared.ensures _ c.in_err-stored_squared.was, c.square_again.ensures)

pub stored_but-requires : goal.stored_but-requires
stored_but-requires c = (
  turned_length _ _ _ _ _ _ _ _ c.turn-2.ensures,
  omega (arith, c.requires.1, c.requires.2),
  c.requires.2,
  turned_elsewhere _ _ _ _ _ _ _ _
      c.turn-2.ensures c.requires.0.wide c.requires.0.basis_fine,
)

pub returns : goal.returns
returns c = (
  turned_end _ _ _ _ _ _ _ _ _ _
      c.turn.ensures c.turn-2.ensures _
      c.stored_squared.ensures c.in_ok-stored_squared.was _ c.stored_but.ensures,
  c.square_again.ensures,
)
