-- `bond::swept_gram`: a Gram matrix that is not finite stops it (swept_stop); any other is diagonalized from the unit matrix on (swept_end).
use Rattle.std.proofs.lemmas.Result.{err_from_is_err_and}
use Rattle.answers.specs.Outcome.{outcome_of}
use Rattle.bond.proofs.Staged.{swept_stop, swept_end}
use Rattle.bond.proofs.swept_gram.Goals as goal

pub returns-in_err-stored : goal.returns-in_err-stored
unfolding outcome_of
returns-in_err-stored c =
    let p = err_from_is_err_and c.from_residual.result c.from_residual.ensures.1 in
    rw (p.1, p.2) (swept_stop _ _ _ _ c.gram.ensures c.stored.ensures _ c.in_err-stored.was)

pub returns : goal.returns
returns c = swept_end _ _ _ _
    c.gram.ensures
    c.stored.ensures
    c.in_ok-stored.was _ _
    c.eye.ensures c.diagonalize.ensures
