-- Loops turn by turn, and one after another. Assumes nothing.
use Prim.Native.Nat.{ℕ, zero, suc, ◌+◌, ◌-◌, ◌<◌, ◌≤◌}
use native.Mathlib.Nat.{add-zero, add-suc, zero-add, sub-zero}
use native.Mathlib.Omega.{arith}
use mathlib.Core.Path.{◌≡◌, refl, ap, ◌∙◌}
use Rattle.lists.specs.Lists.{iter, iter_from}

module _ {S : Type 0} where
  -- turns that do the same to the states that are met
  pub iter_same : (n : ℕ) (f g : ℕ → S → S) (s : S) → ((t : ℕ) (u : S) → t < n → f t u ≡ g t u) → iter n f s ≡ iter n g s
  iter_same zero f g s e = refl
  iter_same (suc n) f g s e = e n (iter n f s) (omega arith) ∙ ap (g n) (iter_same n f g s (λ t u h. e t u (omega arith)))

  pub iter_add : (m n : ℕ) (f : ℕ → S → S) (s : S) → iter (m + n) f s ≡ iter n (λ (t : ℕ). f (m + t)) (iter m f s)
  iter_add m zero f s = rw add-zero
  iter_add m (suc n) f s = rw add-suc (ap (f (m + n)) (iter_add m n f s))

  module _ (f : ℕ → S → S) where
    -- from 0 on
    pub from_all : (n : ℕ) (s : S) → iter_from 0 n f s ≡ iter n f s
    unfolding iter_from
    from_all n s = rw sub-zero (iter_same n (λ (t : ℕ). f (0 + t)) f s (λ t u h. rw zero-add))

    pub from_add : (lo mid hi : ℕ) (s : S) → lo ≤ mid → mid ≤ hi → iter_from lo hi f s ≡ iter_from mid hi f (iter_from lo mid f s)
    unfolding iter_from
    from_add lo mid hi s p q =
        let z : hi - lo ≡ (mid - lo) + (hi - mid) = omega arith in
        rw (z, iter_add (mid - lo) (hi - mid) (λ (t : ℕ). f (lo + t)) s)
        (iter_same (hi - mid) (λ (t : ℕ). f (lo + ((mid - lo) + t))) (λ (t : ℕ). f (mid + t)) (iter (mid - lo) (λ (t : ℕ). f (lo + t)) s)
        (λ t u h. let y : lo + ((mid - lo) + t) ≡ mid + t = omega arith in rw y))

    -- h turns more, which start at j
    pub from_on : (lo j h : ℕ) (s : S) → lo ≤ j → iter_from lo (j + h) f s ≡ iter h (λ (t : ℕ). f (j + t)) (iter_from lo j f s)
    unfolding iter_from
    from_on lo j h s p =
        let z : (j + h) - j ≡ h = omega arith in
        from_add lo j (j + h) s p (omega arith) ∙ rw z
