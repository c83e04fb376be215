-- `run_checks::calls::weights_ok`: check after check, one law for each return (found_stops, weights_wrong, weights_room, weights_fit).
use Rattle.std.proofs.lemmas.Result.{err_from_is_err_and}
use Rattle.run_checks.proofs.InRow.{found_stops, weights_wrong, weights_room, weights_fit}
use Rattle.run_checks.proofs.calls.weights_ok.Goals as goal

pub returns-in_err-found_ok : goal.returns-in_err-found_ok
returns-in_err-found_ok c = let p = err_from_is_err_and c.from_residual.result c.from_residual.ensures.1 in rw (p.1, p.2) (found_stops _ _ _ _ _ c.in_err-found_ok.ensures)

pub returns-then-part-s : goal.returns-then-part-s
returns-then-part-s c = weights_wrong _ _ _ _ _ c.in_ok-found_ok.ensures c.if-part-s.true

pub returns-then-scratch-scratch_of : goal.returns-then-scratch-scratch_of
returns-then-scratch-scratch_of c = weights_room _ _ _ _ _ c.in_ok-found_ok.ensures c.if-part-s.false _ c.scratch_of.ensures c.if-scratch-scratch_of.true

pub returns : goal.returns
returns c = weights_fit _ _ _ _ _ c.in_ok-found_ok.ensures c.if-part-s.false _ c.scratch_of.ensures c.if-scratch-scratch_of.false
    _ c.all_finite-finite.ensures _ c.numbers_found.ensures
