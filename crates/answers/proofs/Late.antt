-- Checks refuse before any work, which leaves scratch unwritten; a stage of the work refuses later. Assumes nothing.
use Rattle.std.specs.Prelude.{Ok, Err}
use mathlib.Core.Path.{◌≡◌, refl, sym, ap, ◌∙◌}
use Prim.Native.Nat.{ℕ, zero, suc}
use mathlib.Core.Bool.{Bool, true, false}
use Rattle.answers.specs.declared.Part.{Part}
use Rattle.answers.specs.declared.Refusal.{Refusal}
use Rattle.answers.specs.Outcome.{Answer, Made, Check, bind, making, ◌then◌, demand, demand_each}
use Rattle.answers.specs.Table.{before_work, Late}
use Rattle.answers.proofs.Outcomes.{ok_err, err_inj}

-- ---- checks
pub record Early (c : Check) : Type 0 where
  pub first : (q : Refusal) → c ≡ Err q → before_work q ≡ true

pub early_demand : (b : Bool) (r : Refusal) → before_work r ≡ true → Early (demand b r)
unfolding demand
early_demand true r h = record { first = λ q e. absurd (ok_err e) }
early_demand false r h = record { first = λ q e. ap before_work (sym (err_inj e)) ∙ h }

pub early_then : (c d : Check) → Early c → Early d → Early (c then d)
early_then (Ok _) d a b = b
early_then (Err r) d a b = a

pub early_each : (r : ℕ → Refusal) (p : ℕ → Bool) (m k : ℕ) → ((j : ℕ) → before_work (r j) ≡ true) → Early (demand_each r p m k)
unfolding demand_each
early_each r p zero k h = record { first = λ q e. absurd (ok_err e) }
early_each r p (suc m) k h = early_then (demand (p k) (r k)) (demand_each r p m (suc k)) (early_demand (p k) (r k) (h k)) (early_each r p m (suc k) h)

-- ---- the work
pub late_ok : {A : Type 0} (a : A) → Late (Ok a)
late_ok a q e = absurd (ok_err e)

pub late_making : {A : Type 0} (p : Part) (k : ℕ) (m : Made A) → Late (making p k m)
late_making p k (Ok a) q e = absurd (ok_err e)
late_making p k (Err i) q e = ap before_work (sym (err_inj e))

pub late_bind : {A B : Type 0} (o : Answer A) (f : A → Answer B) → Late o → ((a : A) → Late (f a)) → Late (bind o f)
late_bind (Ok a) f h g = g a
late_bind (Err r) f h g = λ q e. ap before_work (sym (err_inj e)) ∙ h r refl

-- one stage that makes something, then what follows
pub late_then : {A B : Type 0} (p : Part) (k : ℕ) (m : Made A) (f : A → Answer B) → ((a : A) → Late (f a)) → Late (bind (making p k m) f)
late_then p k m f g = late_bind (making p k m) f (late_making p k m) g

-- a check that the work makes
pub late_demand : {A : Type 0} (b : Bool) (r : Refusal) (o : Answer A) → before_work r ≡ false → Late o → Late (demand b r then o)
unfolding demand
late_demand true r o h g q e = g q e
late_demand false r o h g q e = ap before_work (sym (err_inj e)) ∙ h
