-- `cuts::zone::cut_in`: refused, nothing is promised of the slots (cut_stopped); else both are cleared behind what the new rank uses (cut_laid).
use borrow.Author.Rules.{rules}
use mathlib.Core.Path.{◌∙◌}
use native.Mathlib.Omega.{arith}
use Prim.Native.Nat.{◌*◌, ◌^◌, ◌<◌, ◌≤◌}
use lib.ListN.{length}
use Rattle.std.proofs.lemmas.Result.{err_from_is_err_and, IfOk-at_ok}
use Rattle.answers.specs.Outcome.{outcome_of}
use Rattle.cutform.specs.declared.Bond.{Bond}
use Rattle.cuts.proofs.Zoned.{ranks, rank_within, carry_within, carry_fits, cut_laid, cut_stopped, value_of}
use Rattle.cuts.proofs.zone.cut_in.Goals as goal

pub returns-in_err-cut : goal.returns-in_err-cut
unfolding outcome_of
returns-in_err-cut c =
    let p = err_from_is_err_and c.from_residual.result c.from_residual.ensures.1 in
    rw (p.1, p.2) (cut_stopped _ _ _ _ (c.cut_front.ensures.0 ∙ rw c.in_err-cut.was) _ _)

pub overflow_mul-rl-2 : goal.overflow_mul-rl-2
overflow_mul-rl-2 c =
    let q = IfOk-at_ok (λ (b : Bond). b.rank ≤ c.args.rr) c.in_ok-cut.was c.cut_front.ensures.1 in
    search (rules, ranks)

pub clear_behind-requires : goal.clear_behind-requires
clear_behind-requires c =
    let q = IfOk-at_ok (λ (b : Bond). b.rank ≤ c.args.rr) c.in_ok-cut.was c.cut_front.ensures.1 in
    omega (arith, rank_within (c.args.rl * c.args.n) _ _ _ q c.requires.0, c.cut_front.auto.slot)

pub overflow_mul-cut : goal.overflow_mul-cut
overflow_mul-cut c =
    let q = IfOk-at_ok (λ (b : Bond). b.rank ≤ c.args.rr) c.in_ok-cut.was c.cut_front.ensures.1 in
    let small : length c.args.carry.now * 8 < 2 ^ 63 = search rules in
    carry_fits _ _ _ _ q c.requires.6 small

pub clear_behind-requires-2 : goal.clear_behind-requires-2
clear_behind-requires-2 c =
    let q = IfOk-at_ok (λ (b : Bond). b.rank ≤ c.args.rr) c.in_ok-cut.was c.cut_front.ensures.1 in
    omega (arith, carry_within c.args.rr _ _ _ q c.requires.6, c.cut_front.auto.carry)

pub returns : goal.returns
unfolding outcome_of
returns c = cut_laid _ _ _ _ (value_of _ _ _ c.cut_front.ensures.0 _ c.in_ok-cut.was) _ _ _ _ _ _
    c.clear_behind.ensures c.clear_behind-2.ensures c.cut_front.auto.slot c.cut_front.auto.carry
