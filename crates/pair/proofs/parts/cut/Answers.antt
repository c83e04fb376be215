-- `pair::parts::cut`: a rank that is too large is refused (cut_wide); otherwise the halves are formed of the kept columns in their order (kept_columns, cut_end).
use mathlib.Core.Path.{◌∙◌, sym, ap}
use native.Mathlib.Nat.{mul-le-mul, le_trans}
use Rattle.std.proofs.lemmas.Result.{err_from_is_err_and}
use Rattle.answers.specs.Outcome.{answered, outcome_of}
use Rattle.cutform.specs.Values.{kept_rank}
use Rattle.pair.proofs.Kept.{rank_within, kept_columns, lent_end, lent_again, lent_some}
use Rattle.pair.proofs.Formed.{cut_wide, cut_end}
use Rattle.pair.proofs.parts.cut.Goals as goal

pub returns-then-r-gt-MOST_RANK : goal.returns-then-r-gt-MOST_RANK
unfolding outcome_of
returns-then-r-gt-MOST_RANK c = cut_wide _ _ _ _ _ _ _ c.ranked-r.ensures.0 c.ranked-r.ensures.1 _ c.ranked-r.ensures.2 c.if-r-gt-MOST_RANK.true

pub slice_bounds-form-end : goal.slice_bounds-form-end
slice_bounds-form-end c = lent_end _ c.ranked-r.new.ss _ _ c.ss-2-1.given c.requires.0.columns

pub slice_bounds-form-end-2 : goal.slice_bounds-form-end-2
slice_bounds-form-end-2 c = lent_end _ c.ranked-r.new.js _ _ c.js-2-1.given
    c.requires.0.columns

pub form-requires : goal.form-requires
form-requires c = let ordered = lent_again _ c.ranked-r.new.js _ _ c.js-2-1.given c.requires.0.columns ∙ c.ranked-r.ensures.0 in
    let most = rank_within _ _ _ _ c.ranked-r.ensures.2 c.requires.0.some in (
      c.requires.1,
      c.requires.2,
      lent_some _ c.ranked-r.new.js _ _ c.js-2-1.given c.requires.0.columns _ most,
      kept_columns _ _ c.requires.3 c.requires.4 _ ordered _ most,
      lent_some _ c.ranked-r.new.ss _ _ c.ss-2-1.given c.requires.0.columns _ most,
      le_trans (mul-le-mul c.requires.0.rows c.if-r-gt-MOST_RANK.false) c.requires.5,
      le_trans (mul-le-mul c.if-r-gt-MOST_RANK.false c.requires.0.columns) c.requires.6,
    )

pub returns-in_err-form : goal.returns-in_err-form
unfolding answered outcome_of
returns-in_err-form c =
    let p = err_from_is_err_and c.from_residual.result c.from_residual.ensures.1 in
    let ordered = lent_again _ c.ranked-r.new.js _ _ c.js-2-1.given c.requires.0.columns in
    let values = lent_again _ c.ranked-r.new.ss _ _ c.ss-2-1.given c.requires.0.columns in
    rw (p.1, p.2) (cut_end _ _ _ _ _ _ _ (ordered ∙ c.ranked-r.ensures.0) (values ∙ c.ranked-r.ensures.1) _
    (c.ranked-r.ensures.2 ∙ ap (kept_rank _ _) (sym values)) c.if-r-gt-MOST_RANK.false _ c.in_err-form.ensures)

pub returns : goal.returns
unfolding answered outcome_of
returns c = let ordered = lent_again _ c.ranked-r.new.js _ _ c.js-2-1.given c.requires.0.columns in
    let values = lent_again _ c.ranked-r.new.ss _ _ c.ss-2-1.given c.requires.0.columns in
    (cut_end _ _ _ _ _ _ _ (ordered ∙ c.ranked-r.ensures.0) (values ∙ c.ranked-r.ensures.1) _
    (c.ranked-r.ensures.2 ∙ ap (kept_rank _ _) (sym values)) c.if-r-gt-MOST_RANK.false _ c.in_ok-form.ensures)
