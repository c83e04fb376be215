-- `pair::refusals::pair_ok`: sizes, lengths, numbers: the first check that refuses is the answer (size_stops, length_stops, finite_ends).
use Rattle.std.proofs.lemmas.Result.{err_from_is_err_and}
use Rattle.answers.proofs.Checks.{verdict_passed}
use Rattle.pair.proofs.Verdicts.{size_stops, length_stops, finite_ends}
use Rattle.pair.proofs.refusals.pair_ok.Goals as goal

pub returns-in_err-sized : goal.returns-in_err-sized
returns-in_err-sized c =
    let p = err_from_is_err_and c.from_residual.result c.from_residual.ensures.1 in
    rw (p.1, p.2) (size_stops c.args.l c.args.r _ _ _ _ _ _ _ c.sized.ensures _ c.in_err-sized.was)

pub lent-requires : goal.lent-requires
lent-requires c = verdict_passed _ _ c.sized.ensures c.in_ok-sized.was

pub returns-in_err-lent : goal.returns-in_err-lent
returns-in_err-lent c =
    let p = err_from_is_err_and c.from_residual-in_err-lent.result c.from_residual-in_err-lent.ensures.1 in
    rw (p.1, p.2) (length_stops c.args.l c.args.r _ _ _ _ _ _ _ c.sized.ensures c.in_ok-sized.was _ c.lent.ensures _ c.in_err-lent.was)

pub returns : goal.returns
returns c = finite_ends c.args.l c.args.r _ _ _ _ _ _ _ c.sized.ensures c.in_ok-sized.was _ c.lent.ensures c.in_ok-lent.was _ c.finite.ensures
