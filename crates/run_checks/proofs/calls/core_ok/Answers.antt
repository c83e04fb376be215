-- `run_checks::calls::core_ok`: check after check, one law for each return (found_stops, core_wrong, core_room, core_stops, core_fits).
use Rattle.std.proofs.lemmas.Result.{err_from_is_err_and}
use Rattle.run_checks.proofs.InRow.{found_stops, core_wrong, core_room, core_stops, core_fits}
use Rattle.run_checks.proofs.calls.core_ok.Goals as goal

pub returns-in_err-found_ok : goal.returns-in_err-found_ok
returns-in_err-found_ok c = let p = err_from_is_err_and c.from_residual.result c.from_residual.ensures.1 in rw (p.1, p.2) (found_stops _ _ _ _ _ c.in_err-found_ok.ensures)

pub returns-then-part-core_size : goal.returns-then-part-core_size
returns-then-part-core_size c = core_wrong _ _ _ _ c.in_ok-found_ok.ensures _ c.core_size.ensures c.if-part-core_size.true

pub returns-then-scratch-scratch_of : goal.returns-then-scratch-scratch_of
returns-then-scratch-scratch_of c = core_room _ _ _ _ c.in_ok-found_ok.ensures _ c.core_size.ensures c.if-part-core_size.false _
    c.scratch_of.ensures c.if-scratch-scratch_of.true

pub returns-in_err-numbers_found : goal.returns-in_err-numbers_found
returns-in_err-numbers_found c = let p = err_from_is_err_and c.from_residual-in_err-numbers_found.result c.from_residual-in_err-numbers_found.ensures.1 in rw (p.1, p.2)
    (core_stops _ _ _ _ c.in_ok-found_ok.ensures _ c.core_size.ensures c.if-part-core_size.false _ c.scratch_of.ensures
    c.if-scratch-scratch_of.false _ c.all_finite-finite.ensures _ c.in_err-numbers_found.ensures)

pub returns : goal.returns
returns c = core_fits _ _ _ _ c.in_ok-found_ok.ensures _ c.core_size.ensures c.if-part-core_size.false _ c.scratch_of.ensures
    c.if-scratch-scratch_of.false _ c.all_finite-finite.ensures c.in_ok-numbers_found.ensures _ c.reaches_ok.ensures
