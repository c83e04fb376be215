-- `bond::cut`: sweeps that are not finite stop it (cut_stop); else `finish` is what follows them (cut_on).
use borrow.Author.Rules.{rules}
use Rattle.std.proofs.lemmas.Result.{err_from_is_err_and}
use Rattle.answers.specs.declared.Part.TheVariants.{Spectrum}
use Rattle.answers.specs.Outcome.{outcome_of}
use Rattle.bond.proofs.Staged.{cut_stop, cut_on, mapped}
use Rattle.bond.proofs.cut.Goals as goal

pub returns-in_err-s : goal.returns-in_err-s
unfolding outcome_of
returns-in_err-s c =
    let p = err_from_is_err_and c.from_residual.result c.from_residual.ensures.1 in
    let m = mapped Spectrum c.args.k _ (λ i r h. search rules) c.swept_within.result c.map_err.result c.map_err.ensures.cases _ _ c.swept_within.ensures in
    rw (p.1, p.2) (cut_stop _ _ _ _ _ m _ c.in_err-s.was)

pub returns : goal.returns
returns c =
    let m = mapped Spectrum c.args.k _ (λ i r h. search rules) c.swept_within.result c.map_err.result c.map_err.ensures.cases _ _ c.swept_within.ensures in
    cut_on _ _ _ _ _ m _ c.in_ok-s.was _ c.finish.ensures
