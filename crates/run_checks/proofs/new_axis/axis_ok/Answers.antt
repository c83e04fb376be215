-- `run_checks::new_axis::axis_ok`: check after check, one law for each return (found_stops, axis_room, axis_stops, axis_fits).
use Rattle.std.proofs.lemmas.Result.{err_from_is_err_and}
use Rattle.run_checks.proofs.InRow.{found_stops, axis_room, axis_stops, axis_fits}
use Rattle.run_checks.proofs.new_axis.axis_ok.Goals as goal

pub returns-in_err-found_ok : goal.returns-in_err-found_ok
returns-in_err-found_ok c = let p = err_from_is_err_and c.from_residual.result c.from_residual.ensures.1 in rw (p.1, p.2) (found_stops _ _ _ _ _ c.in_err-found_ok.ensures)

pub returns-then-scratch-scratch_of : goal.returns-then-scratch-scratch_of
returns-then-scratch-scratch_of c = axis_room _ _ _ _ c.in_ok-found_ok.ensures _ c.scratch_of.ensures c.if-scratch-scratch_of.true

pub returns-in_err-numbers_found : goal.returns-in_err-numbers_found
returns-in_err-numbers_found c = let p = err_from_is_err_and c.from_residual-in_err-numbers_found.result c.from_residual-in_err-numbers_found.ensures.1 in rw (p.1, p.2)
    (axis_stops _ _ _ _ c.in_ok-found_ok.ensures _ c.scratch_of.ensures c.if-scratch-scratch_of.false _ _
    c.axis_finite-finite.ensures c.axis_ok-mild.ensures _ c.in_err-numbers_found.ensures)

pub returns : goal.returns
returns c = axis_fits _ _ _ _ c.in_ok-found_ok.ensures _ c.scratch_of.ensures c.if-scratch-scratch_of.false _ _
    c.axis_finite-finite.ensures c.axis_ok-mild.ensures c.in_ok-numbers_found.ensures _ c.reaches_ok.ensures
