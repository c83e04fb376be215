-- Laws of turns that only check: all pass exactly where each does. Assumes nothing.
use Rattle.std.specs.Prelude.{Ok}
use mathlib.Core.Path.{◌≡◌, refl, sym, ap, ◌∙◌}
use Prim.Native.Nat.{ℕ, zero, suc, ◌+◌, ◌≤◌, ◌<◌}
use native.Mathlib.Nat.{le_refl, eq-or-lt_of_le}
use native.Mathlib.Omega.{arith}
use mathlib.Core.Logic.{⊎_elim}
use Rattle.answers.specs.Outcome.{Check}
use Rattle.answers.proofs.Checks.{then_is, then_skip}
use Rattle.lists.specs.Walks.{turning}

module _ (c : ℕ → Check) where
  abbrev turns : ℕ → ℕ → Check
  turns m k = turning m k (λ (j : ℕ) _. c j) tt

  pub turning_yes : (m k : ℕ) → ((j : ℕ) → k ≤ j → j < k + m → c j ≡ Ok tt) → turns m k ≡ Ok tt
  unfolding turning
  turning_yes zero k h = refl
  turning_yes (suc m) k h = then_skip (c k) (turns m (suc k)) (Ok tt) (h k (le_refl k) (omega arith)) (turning_yes m (suc k) (λ j a b. h j (omega arith) (omega arith)))

  pub turning_is : (m k : ℕ) → turns m k ≡ Ok tt → (j : ℕ) → k ≤ j → j < k + m → c j ≡ Ok tt
  unfolding turning
  turning_is zero k e j a b = let z : ⊥ = omega arith in absurd z
  turning_is (suc m) k e j a b =
      let w = then_is (c k) (turns m (suc k)) tt e in
      ⊎_elim (λ q. ap c (sym q) ∙ w.0) (λ l. turning_is m (suc k) w.1 j l (omega arith)) (eq-or-lt_of_le a)
