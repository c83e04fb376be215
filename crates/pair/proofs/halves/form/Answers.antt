-- `pair::halves::form`: the left half first, then the right: the first that is not finite is the answer (left_stop, right-stop), else both stand (right_end).
use Rattle.std.proofs.lemmas.Result.{err_from_is_err_and}
use Rattle.pair.proofs.FormedHalves.{left_stop, right_end}
use Rattle.pair.proofs.halves.form.Goals as goal

pub left_core-lefts-requires : goal.left_core-lefts-requires
left_core-lefts-requires c = (c.requires.0, c.requires.2, c.requires.3, c.requires.4, c.requires.5)

pub returns-in_err-stored_in : goal.returns-in_err-stored_in
returns-in_err-stored_in c =
    let p = err_from_is_err_and c.from_residual.result c.from_residual.ensures.1 in
    rw (p.1, p.2) (left_stop _ _ _ _ _ _ _ _ _ c.left_core-lefts.ensures _ c.stored_in.ensures _ _ c.in_err-stored_in.was)

pub right_core-rights-requires : goal.right_core-rights-requires
right_core-rights-requires c = (c.requires.1, c.requires.2, c.requires.3, c.requires.6)

pub returns : goal.returns
returns c = right_end _ _ _ _ _ _ _ _ _ c.left_core-lefts.ensures _ c.stored_in.ensures c.in_ok-stored_in.was _ _
    c.right_core-rights.ensures _ c.stored_in-2.ensures
