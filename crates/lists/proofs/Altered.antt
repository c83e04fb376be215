-- A loop that alters places that are all apart, each by itself: what stands at each in the end. Assumes nothing.
use mathlib.Core.Path.{◌≡◌, refl, ap, ◌∙◌}
use mathlib.Core.Logic.{⊎_elim}
use Prim.Native.Nat.{ℕ, zero, suc, ◌<◌, ◌≤◌}
use native.Mathlib.Nat.{not-suc-le-zero, le_of_suc-le-suc, le_refl, eq-or-lt_of_le}
use native.Mathlib.Omega.{arith}
use mathlib.Core.List.{List}
use lib.ListN.{length, get_or, set, length-set}
use lib.Seq.{get_or-set_same, get_or-set_other}
use Rattle.lists.specs.Lists.{iter}
use Rattle.lists.proofs.Tables.{iter_keeps}

module _ {A : Type 0} (o : A) (x : ℕ → ℕ) (f : ℕ → A → A) (l : List A) where
  -- place x r becomes f r of what stands there, for each r below k in turn
  abbrev pub altered : ℕ → List A
  altered k = iter k (λ (r : ℕ) (t : List A). set t (x r) (f r (get_or t (x r) o))) l

  pub altered_length : (k : ℕ) → length (altered k) ≡ length l
  altered_length k = iter_keeps (λ (t : List A). length t ≡ length l) (λ (r : ℕ) (t : List A). set t (x r) (f r (get_or t (x r) o))) l refl (λ r t e. simp length-set e) k

  pub altered_other : (k z : ℕ) → ((r : ℕ) → r < k → ¬ (z ≡ x r)) → get_or (altered k) z o ≡ get_or l z o
  altered_other zero z d = refl
  altered_other (suc k) z d = get_or-set_other (altered k) (x k) z (f k (get_or (altered k) (x k) o)) o (d k (le_refl (suc k))) ∙ altered_other k z (λ r h. d r (omega arith))

  pub altered_at : (m : ℕ) → ((i j : ℕ) → i < m → j < m → x i ≡ x j → i ≡ j) → ((i : ℕ) → i < m → x i < length l)
      → (k r : ℕ) → k ≤ m → r < k → get_or (altered k) (x r) o ≡ f r (get_or l (x r) o)
  altered_at m apart within zero r h g = absurd (not-suc-le-zero g)
  altered_at m apart within (suc k) r h g =
      let v = f k (get_or (altered k) (x k) o) in
      ⊎_elim
      (λ q. rw q (get_or-set_same (altered k) (x k) v o (rw (altered_length k) (within k h)) ∙ ap (f k) (altered_other k (x k) (λ i p e. let z = apart k i h (omega arith) e in omega arith))))
      (λ q. get_or-set_other (altered k) (x k) (x r) v o (λ e. let z = apart r k (omega arith) h e in omega arith) ∙ altered_at m apart within k r (omega arith) q)
      (eq-or-lt_of_le (le_of_suc-le-suc g))
