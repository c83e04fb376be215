-- `pair::pair_of`: columns that are not finite stop it (pair_stop); otherwise they are split (columns_finite_lem, pair_end).
use mathlib.Core.Path.{◌∙◌}
use Rattle.std.proofs.lemmas.Result.{err_from_is_err_and}
use Rattle.answers.specs.Outcome.{outcome_of}
use Rattle.pair.proofs.Columned.{columns_finite_lem}
use Rattle.pair.proofs.Pairs.{told_whole, pair_stop, pair_end}
use Rattle.pair.proofs.pair_of.Goals as goal

pub columns-made-requires : goal.columns-made-requires
columns-made-requires c = (c.requires.1, c.requires.2, c.requires.3, c.requires.0.rows, c.requires.0.columns)

pub returns-in_err-stored_in : goal.returns-in_err-stored_in
unfolding outcome_of
returns-in_err-stored_in c =
    let p = err_from_is_err_and c.from_residual.result c.from_residual.ensures.1 in
    rw (p.1, p.2) (pair_stop _ _ _ _ _ c.columns-made.ensures _ c.stored_in.ensures _ c.in_err-stored_in.was)

pub split-requires : goal.split-requires
split-requires c = (
  c.requires.0,
  c.a-1.given ∙ c.requires.3,
  columns_finite_lem _ _ _ _ _ _ _ c.columns-made.ensures (told_whole _ _ _ _ c.stored_in.ensures c.in_ok-stored_in.was),
  c.requires.4,
  c.requires.5,
)

pub returns : goal.returns
returns c = pair_end _ _ _ _ _ c.columns-made.ensures _ c.stored_in.ensures
    c.in_ok-stored_in.was _ _
    c.split.ensures
