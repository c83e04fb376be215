-- `bond::finish`: stage by stage: the values stop it (rest_first), the factors do (rest_second), or both are whole (rest_whole).
use borrow.Author.Rules.{rules}
use Rattle.std.proofs.lemmas.Result.{err_from_is_err_and}
use Rattle.answers.specs.declared.Part.TheVariants.{Spectrum}
use Rattle.answers.specs.Outcome.{outcome_of}
use Rattle.bond.proofs.Chosen.{chosen_most, chosen_columns}
use Rattle.bond.proofs.Staged.{rest_first, rest_second, rest_whole, mapped, mapped_ok}
use Rattle.bond.proofs.finish.Goals as goal

pub returns-in_err-kept : goal.returns-in_err-kept
unfolding outcome_of
returns-in_err-kept c =
    let p = err_from_is_err_and c.from_residual.result c.from_residual.ensures.1 in
    let m = mapped Spectrum c.args.k _ (λ i r h. search rules) c.keep.result c.map_err.result c.map_err.ensures.cases _ _ c.keep.ensures in
    rw (p.1, p.2) (rest_first _ _ _ _ _ _ m _ c.in_err-kept.was)

pub factor-made-requires : goal.factor-made-requires
factor-made-requires c =
    let m = mapped Spectrum c.args.k _ (λ i r h. search rules) c.keep.result c.map_err.result c.map_err.ensures.cases _ _ c.keep.ensures in
    let e = mapped_ok _ _ _ _ _ m _ c.in_ok-kept.was in (
      c.requires.0,
      c.requires.1,
      c.requires.3,
      search rules,
      chosen_columns _ _ _ _ e c.requires.1,
      search rules,
      chosen_most _ _ _ _ e c.requires.1,
      c.requires.4,
      c.requires.5,
      c.requires.6,
    )

pub returns-in_err-stored_in : goal.returns-in_err-stored_in
unfolding outcome_of
returns-in_err-stored_in c =
    let p = err_from_is_err_and c.from_residual-in_err-stored_in.result c.from_residual-in_err-stored_in.ensures.1 in
    let m = mapped Spectrum c.args.k _ (λ i r h. search rules) c.keep.result c.map_err.result c.map_err.ensures.cases _ _ c.keep.ensures in
    rw (p.1, p.2) (rest_second _ _ _ _ _ _ m _ c.in_ok-kept.was _ _ c.factor-made.ensures _ c.stored_in.ensures _ c.in_err-stored_in.was)

pub returns : goal.returns
unfolding outcome_of
returns c =
    let m = mapped Spectrum c.args.k _ (λ i r h. search rules) c.keep.result c.map_err.result c.map_err.ensures.cases _ _ c.keep.ensures in
    rest_whole _ _ _ _ _ _ m _ c.in_ok-kept.was _ _ c.factor-made.ensures _ c.stored_in.ensures c.in_ok-stored_in.was
