-- `plan::plans::as_fresh`: a fresh run that is refused is not the plan's (not-accepted); one that is accepted is compared by `same_kept` (accepted-tells).
use native.Mathlib.Omega.{arith}
use Prim.Native.Nat.{ℕ}
use mathlib.Core.Path.{◌≡◌, subst}
use mathlib.Core.Bool.{Bool}
use Rattle.answers.specs.declared.Refusal.{Refusal}
use Rattle.std.specs.Prelude.{Ok, Err}
use Rattle.comparing.specs.Same.{Tells}
use Rattle.comparing.proofs.Equal.{tells_no, tells_as}
use Rattle.plan.specs.declared.plans.Plan.{Plan}
use Rattle.plan.specs.declared.plans.Answer.{Answer}
use Rattle.plan.specs.Answers.{SamePlans, FreshIs}
use Rattle.plan.proofs.plans.as_fresh.Goals as goal

not-accepted : {p : Plan} {a : Answer} {q : Refusal} → a.verdict ≡ Err q → FreshIs p a → ⊥
not-accepted g k = let e = k.accepted in let z : ◌≡◌ {A = ℕ} 0 1 = cc in omega arith

accepted-tells : {p : Plan} {a : Answer} {r : Bool} → a.verdict ≡ Ok tt → Tells r (SamePlans p a.plan) → Tells r (FreshIs p a)
accepted-tells g t = tells_as t (λ s. record { accepted = g; kept = s }) (λ k. k.kept)

pub returns-in-Err : goal.returns-in-Err
returns-in-Err c = tells_no (subst (λ (a : Answer). FreshIs c.args.p a → ⊥) c.fresh-a.ensures (not-accepted c.in-Err.is))

pub returns : goal.returns
returns c = subst
    (λ (a : Answer). Tells c.same_kept.result (FreshIs c.args.p a))
    c.fresh-a.ensures
    (accepted-tells c.in_default.is c.same_kept.ensures)
