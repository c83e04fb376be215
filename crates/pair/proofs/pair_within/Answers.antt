-- `pair::pair_within`: what the checks passed gives every length (ready), and the rank that is answered is small (rank_small); the lists then hold the halves (ended_made).
use borrow.Author.Rules.{rules}
use mathlib.Core.Path.{refl}
use Rattle.std.proofs.lemmas.Result.{err_from_is_err_and}
use Rattle.answers.specs.Outcome.{outcome_of}
use Prim.Native.Nat.{◌*◌}
use native.Mathlib.Omega.{arith}
use native.Mathlib.Nat.{mul-le-mul, mul-le-mul_right, mul-le-mul_left}
use Rattle.lists.proofs.Parts.{span_length}
use Rattle.pair.proofs.Ended.{ready, rank_small, ended_refused, ended_made}
use Rattle.pair.proofs.Verdicts.{two_fit}
use Rattle.pair.proofs.pair_within.Goals as goal

pub overflow_mul-m : goal.overflow_mul-m
overflow_mul-m c = let ok = ready c.args.l c.args.r _ c.args.left.now c.args.right.now _ _ _ c.requires in
    record { fits = omega (arith, ok.lines.rows) }

pub overflow_mul-n : goal.overflow_mul-n
overflow_mul-n c = let ok = ready c.args.l c.args.r _ c.args.left.now c.args.right.now _ _ _ c.requires in
    record { fits = omega (arith, ok.lines.columns) }

pub overflow_mul-e : goal.overflow_mul-e
overflow_mul-e c = let ok = ready c.args.l c.args.r _ c.args.left.now c.args.right.now _ _ _ c.requires in
    two_fit _ _ ok.lines.columns ok.lines.rows

pub slice_bounds-pair_of-end : goal.slice_bounds-pair_of-end
slice_bounds-pair_of-end c = let ok = ready c.args.l c.args.r _ c.args.left.now c.args.right.now _ _ _ c.requires in
    ok.room

pub pair_of-requires : goal.pair_of-requires
pair_of-requires c = let ok = ready c.args.l c.args.r _ c.args.left.now c.args.right.now _ _ _ c.requires in
    (ok.lines, ok.left_long, ok.right_long, span_length _ _ ok.room, search rules, search rules)

pub returns-in_err-made : goal.returns-in_err-made
unfolding outcome_of
returns-in_err-made c =
    let p = err_from_is_err_and c.from_residual.result c.from_residual.ensures.1 in
    rw (p.1, p.2) (ended_refused _ _ _ _ _ c.in_err-made.ensures)

pub overflow_mul-m-2 : goal.overflow_mul-m-2
unfolding outcome_of
overflow_mul-m-2 c = let ok = ready c.args.l c.args.r _ c.args.left.now c.args.right.now _ _ _ c.requires in
    let k = rank_small _ _ _ _ ok.lines.some c.in_ok-made.ensures in
    two_fit _ _ ok.lines.rows (omega (arith, k))

pub fit-requires : goal.fit-requires
unfolding outcome_of
fit-requires c = let ok = ready c.args.l c.args.r _ c.args.left.now c.args.right.now _ _ _ c.requires in
    let k = rank_small _ _ _ _ ok.lines.some c.in_ok-made.ensures in
    (omega (arith, mul-le-mul ok.lines.rows k), omega (arith, mul-le-mul_left (c.args.l.rl * c.args.l.n) k, ok.left_out))

pub overflow_mul-made : goal.overflow_mul-made
unfolding outcome_of
overflow_mul-made c = let ok = ready c.args.l c.args.r _ c.args.left.now c.args.right.now _ _ _ c.requires in
    let k = rank_small _ _ _ _ ok.lines.some c.in_ok-made.ensures in
    two_fit _ _ (omega (arith, k)) ok.lines.columns

pub fit-requires-2 : goal.fit-requires-2
unfolding outcome_of
fit-requires-2 c = let ok =
    ready c.args.l c.args.r _ c.args.left.now c.args.right.now _ _ _
    c.requires in
    let k =
    rank_small _ _ _ _ ok.lines.some c.in_ok-made.ensures in
    (omega (arith, mul-le-mul k ok.lines.columns), omega (arith, mul-le-mul_right (c.args.r.n * c.args.r.rr) k, ok.right_out))

pub returns : goal.returns
unfolding outcome_of
returns c = ended_made _ _ _ _ _ c.in_ok-made.ensures _ refl _ _ c.fit.ensures c.fit-2.ensures
