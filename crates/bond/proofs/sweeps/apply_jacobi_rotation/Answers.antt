-- `bond::sweeps::apply_jacobi_rotation`: matrix and basis are turned, then looked at in this order: the first that is not finite stops it (turned_stop, turned_end).
use borrow.Author.Rules.{rules}
use Rattle.std.proofs.lemmas.Result.{err_from_is_err_and}
use Rattle.bond.proofs.Rotations.{turned_stop, turned_end}
use Rattle.bond.proofs.sweeps.apply_jacobi_rotation.Goals as goal

pub returns-in_err-stored : goal.returns-in_err-stored
returns-in_err-stored c =
    let p = err_from_is_err_and c.from_residual.result c.from_residual.ensures.1 in
    rw (p.1, p.2) (search (rules, turned_stop))

pub returns : goal.returns
returns c = turned_end _ _ _ _ _ _ _ _ _ c.turn_gram.ensures
    c.turn_columns.ensures _ c.stored.ensures
    c.in_ok-stored.was _ c.stored-2.ensures
