-- An answer or a refusal. Definitions only.
use Rattle.std.specs.Prelude.{ℕ, zero, suc, Bool, true, false, Result, Ok, Err}
use Rattle.answers.specs.declared.Part.{Part}
use Rattle.answers.specs.declared.Refusal.{Refusal}
use Rattle.answers.specs.declared.Refusal.TheVariants.{Stored}

-- go on with the answer; a refusal stays
module _ {E A B : Type 0} where
  abbrev pub bind : Result A E → (A → Result B E) → Result B E
  bind (Ok a) k = k a
  bind (Err e) k = Err e

-- what a call answers: what it makes, or why it makes nothing
abbrev pub Answer : Type 0 → Type 0
Answer A = Result A Refusal

-- what a stage of the work answers: what it made, or the index of the first number that isn't finite
abbrev pub Made : Type 0 → Type 0
Made A = Result A ℕ

-- a stage that makes this part for core k
abbrev pub making : {A : Type 0} → Part → ℕ → Made A → Answer A
making part k (Ok a) = Ok a
making part k (Err i) = Err (Stored part k i)

-- ---- checks: nothing to answer but that they pass
abbrev pub Check : Type 0
Check = Answer (Unit {0})

infixr 20 ◌then◌
abbrev pub ◌then◌ : {A : Type 0} → Check → Answer A → Answer A
◌then◌ c o = bind c (λ _. o)

-- the refusal r, unless b holds
unfoldable pub demand : Bool → Refusal → Check
demand true r = Ok tt
demand false r = Err r

-- the refusal r k at the first of the m places from k on where p fails
unfoldable pub demand_each : (ℕ → Refusal) → (ℕ → Bool) → ℕ → ℕ → Check
demand_each r p zero k = Ok tt
demand_each r p (suc m) k = demand (p k) (r k) then demand_each r p m (suc k)

-- ---- an outcome as code answers it, which lends what it makes
-- what a stage of the work answers of the numbers it made: all are finite, or the index of the first that isn't
abbrev pub Stage : Type 0
Stage = Made (Unit {0})

-- the refusal alone
abbrev pub verdict_of : {A : Type 0} → Answer A → Check
verdict_of (Ok a) = Ok tt
verdict_of (Err r) = Err r

-- the code's verdict v, with a what it holds at the end
unfoldable pub answered : {A : Type 0} → Check → A → Answer A
answered (Ok _) a = Ok a
answered (Err r) a = Err r

abbrev pub stage_of : {A : Type 0} → Made A → Stage
stage_of (Ok a) = Ok tt
stage_of (Err i) = Err i

-- a stage's answer s, with a what it made
unfoldable pub staged : {A : Type 0} → Stage → A → Made A
staged (Ok _) a = Ok a
staged (Err i) a = Err i

-- the code's result o, with what f makes of its value
unfoldable pub outcome_of : {E A B : Type 0} → Result B E → (B → A) → Result A E
outcome_of (Ok b) f = Ok (f b)
outcome_of (Err e) f = Err e

-- the call's verdict on a stage that made this part for core k
abbrev pub stored_in : Part → ℕ → Stage → Check
stored_in part k s = verdict_of (making part k (staged s (tt {0})))

-- what an outcome holds, or z
abbrev pub held_or : {E A : Type 0} → A → Result A E → A
held_or z (Ok a) = a
held_or z (Err e) = z
