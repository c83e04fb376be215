-- `pair::contract_and_split`: a refusal leaves the lists as they were (call_refused); otherwise the answer of `pair_within`, and the scratch cleared (call_made).
use Rattle.std.proofs.lemmas.Result.{err_from_is_err_and}
use Rattle.pair.proofs.Ended.{call_refused, call_ready, call_made}
use Rattle.pair.proofs.contract_and_split.Goals as goal

pub returns-in_err-pair_ok : goal.returns-in_err-pair_ok
returns-in_err-pair_ok c =
    let p = err_from_is_err_and c.from_residual.result c.from_residual.ensures.1 in
    rw (p.1, p.2) (call_refused _ _ _ _ _ _ _ c.pair_ok.ensures _ c.in_err-pair_ok.was)

pub pair_within-made-requires : goal.pair_within-made-requires
pair_within-made-requires c = call_ready _ _ _ c.args.lefts.now c.args.rights.now c.args.scratch.now _ c.pair_ok.ensures c.in_ok-pair_ok.was

pub returns : goal.returns
returns c = call_made _ _ _ _ _ _ _
    c.pair_ok.ensures
    c.in_ok-pair_ok.was _ _ _ _ _
    c.pair_within-made.ensures
    c.scratch-1.given c.fill.ensures
