-- `pair::parts::valued`: from the unit matrix the columns are made orthogonal; where that stops it stops (valued_stop), and the values are the roots of the sums of squares (valued_end).
use Rattle.std.proofs.lemmas.Result.{err_from_is_err_and}
use Rattle.answers.specs.Outcome.{staged, outcome_of}
use Rattle.passes.proofs.Rotated.{held_first}
use Rattle.pair.proofs.Formed.{roots_are, valued_stop, valued_end}
use Rattle.pair.proofs.parts.valued.Goals as goal

pub orthogonalize-requires : goal.orthogonalize-requires
orthogonalize-requires c = (
  held_first _ _ _ _ _ c.requires.0 c.requires.1 c.eye.ensures c.square.ensures,
  c.eye.ensures,
  c.requires.4,
)

pub returns-in_err-count : goal.returns-in_err-count
unfolding outcome_of
returns-in_err-count c =
    let p = err_from_is_err_and c.from_residual.result c.from_residual.ensures.1 in
    rw (p.1, p.2) (valued_stop _ _ _ _ c.eye.ensures _ c.in_err-count.ensures.0)

pub returns-in_err-stored : goal.returns-in_err-stored
unfolding staged outcome_of
returns-in_err-stored c =
    let p = err_from_is_err_and c.from_residual-in_err-stored.result c.from_residual-in_err-stored.ensures.1 in
    rw (p.1, p.2) (valued_end _ _ _ _ c.eye.ensures _ c.in_ok-count.ensures.0 _ _ (roots_are _ _ _ _ _ c.in_ok-count.ensures.1 c.roots.ensures) c.in_err-stored.ensures)

pub returns : goal.returns
unfolding staged outcome_of
returns c = valued_end _ _ _ _ c.eye.ensures _ c.in_ok-count.ensures.0 _ _ (roots_are _ _ _ _ _ c.in_ok-count.ensures.1 c.roots.ensures) c.in_ok-stored.ensures
