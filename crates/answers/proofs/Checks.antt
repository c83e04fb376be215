-- Laws of checks: what a check that passes says, and which check is left where all but one part is known. Assumes nothing.
use mathlib.Core.Path.{◌≡◌, refl, sym, ap, ◌∙◌}
use Prim.Native.Nat.{ℕ, zero, suc, ◌+◌, ◌≤◌, ◌<◌}
use native.Mathlib.Nat.{zero-add, add-zero, add-suc, suc-add, le_refl, eq-or-lt_of_le}
use native.Mathlib.Omega.{arith}
use mathlib.Core.Bool.{Bool, true, false}
use mathlib.Core.Logic.{⊎_elim}
use Rattle.answers.specs.declared.Refusal.{Refusal}
use Rattle.std.specs.Prelude.{Ok, Err}
use Rattle.answers.specs.Outcome.{Answer, Check, ◌then◌, demand, demand_each}
use Rattle.answers.proofs.Outcomes.{ok_err}

pub demand_yes : (b : Bool) (r : Refusal) → b ≡ true → demand b r ≡ Ok tt
unfolding demand
demand_yes b r e = ap (λ (x : Bool). demand x r) e

pub demand_no : (b : Bool) (r : Refusal) → b ≡ false → demand b r ≡ Err r
unfolding demand
demand_no b r e = ap (λ (x : Bool). demand x r) e

pub demand_is : (b : Bool) (r : Refusal) → demand b r ≡ Ok tt → b ≡ true
unfolding demand
demand_is true r h = refl
demand_is false r h = absurd (ok_err (sym h))

-- ---- one check after another
pub then_is : {A : Type 0} (c : Check) (o : Answer A) (a : A) → c then o ≡ Ok a → (c ≡ Ok tt) × (o ≡ Ok a)
then_is (Ok _) o a h = (refl, h)
then_is (Err r) o a h = absurd (ok_err (sym h))

-- a check that passes is passed over
pub then_skip : {A : Type 0} (c : Check) (o p : Answer A) → c ≡ Ok tt → o ≡ p → c then o ≡ p
then_skip c o p e h = ap (λ (x : Check). x then o) e ∙ h

pub then_on : {A : Type 0} (c d : Check) (o p : Answer A) → c ≡ d → o ≡ p → c then o ≡ d then p
then_on c d o p e h = ap (λ (x : Check). x then o) e ∙ ap (λ x. d then x) h

-- ---- a check of each place
module _ (r : ℕ → Refusal) where
  pub each_same : (p q : ℕ → Bool) (m k : ℕ) → ((j : ℕ) → k ≤ j → j < k + m → p j ≡ q j) → demand_each r p m k ≡ demand_each r q m k
  unfolding demand_each
  each_same p q zero k h = refl
  each_same p q (suc m) k h =
      then_on (demand (p k) (r k)) (demand (q k) (r k)) (demand_each r p m (suc k)) (demand_each r q m (suc k))
      (ap (λ (b : Bool). demand b (r k)) (h k (le_refl k) (omega arith)))
      (each_same p q m (suc k) (λ j a b. h j (omega arith) (omega arith)))

  pub each_yes : (p : ℕ → Bool) (m k : ℕ) → ((j : ℕ) → k ≤ j → j < k + m → p j ≡ true) → demand_each r p m k ≡ Ok tt
  unfolding demand_each
  each_yes p zero k h = refl
  each_yes p (suc m) k h =
      then_skip (demand (p k) (r k)) (demand_each r p m (suc k)) (Ok tt) (demand_yes (p k) (r k) (h k (le_refl k) (omega arith))) (each_yes p m (suc k) (λ j a b. h j (omega arith) (omega arith)))

  pub each_is : (p : ℕ → Bool) (m k : ℕ) → demand_each r p m k ≡ Ok tt → (j : ℕ) → k ≤ j → j < k + m → p j ≡ true
  unfolding demand_each
  each_is p zero k e j a b = let z : ⊥ = omega arith in absurd z
  each_is p (suc m) k e j a b =
      let w = then_is (demand (p k) (r k)) (demand_each r p m (suc k)) tt e in
      ⊎_elim (λ q. ap p (sym q) ∙ demand_is (p k) (r k) w.0) (λ l. each_is p m (suc k) w.1 j l (omega arith)) (eq-or-lt_of_le a)

  -- the first z pass: what is left is the check from there on
  pub each_from : (p : ℕ → Bool) (z m k : ℕ) → ((j : ℕ) → k ≤ j → j < k + z → p j ≡ true) → demand_each r p (z + m) k ≡ demand_each r p m (k + z)
  unfolding demand_each
  each_from p zero m k h = ap (λ (j : ℕ). demand_each r p j k) (zero-add m) ∙ ap (λ (j : ℕ). demand_each r p m j) (sym (add-zero k))
  each_from p (suc z) m k h =
      ap (λ (j : ℕ). demand_each r p j k) (suc-add z m)
      ∙ then_skip (demand (p k) (r k)) (demand_each r p (z + m) (suc k)) (demand_each r p m (suc k + z)) (demand_yes (p k) (r k) (h k (le_refl k) (omega arith))) (each_from p z m (suc k) (λ j a b. h j (omega arith) (omega arith)))
      ∙ ap (λ (j : ℕ). demand_each r p m j) (suc-add k z ∙ sym (add-suc k z))

-- ---- checks in a row, by what code found: one law for a return, one to go on
module _ {A : Type 0} (c : Check) (o : Answer A) (v : Check) (e : v ≡ c) where
  pub then_stops : (r : Refusal) → v ≡ Err r → Err r ≡ (c then o)
  then_stops r h = sym (ap (λ (x : Check). x then o) (sym e ∙ h))

  pub then_passes : (w : Answer A) → v ≡ Ok tt → w ≡ o → w ≡ (c then o)
  then_passes w h g = g ∙ sym (ap (λ (x : Check). x then o) (sym e ∙ h))

pub verdict_passed : (c : Check) (v : Check) → v ≡ c → v ≡ Ok tt → c ≡ Ok tt
verdict_passed c v e h = sym e ∙ h

pub verdict_refused : (c : Check) (v : Check) (r : Refusal) → v ≡ c → v ≡ Err r → c ≡ Err r
verdict_refused c v r e h = sym e ∙ h
