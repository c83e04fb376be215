-- Tests as equations, and back. Assumes nothing.
use mathlib.Core.Path.{◌≡◌, refl, sym, ap, ◌∙◌, subst}
use Prim.Native.Nat.{ℕ, ◌≤◌, ◌<◌}
use native.Mathlib.Omega.{arith}
use mathlib.Core.Bool.{Bool, true, false, not, ◌&&◌, true≢false}
use lib.Dec.{T, leb, ltb, eqb, leb→le, le→leb, ltb→lt, lt→ltb, eqb→eq, eqb_refl}

pub holds : (b : Bool) → b ≡ true → T b
holds b e = subst T (sym e) tt

pub passes : (b : Bool) → T b → b ≡ true
passes true h = refl
passes false h = absurd h

pub fails : (b : Bool) → (b ≡ true → ⊥) → b ≡ false
fails true h = absurd (h refl)
fails false h = refl

pub ltb_yes : (m n : ℕ) → m < n → ltb m n ≡ true
ltb_yes m n h = passes (ltb m n) (lt→ltb m n h)

pub leb_yes : (m n : ℕ) → m ≤ n → leb m n ≡ true
leb_yes m n h = passes (leb m n) (le→leb m n h)

pub eqb_yes : (m n : ℕ) → m ≡ n → eqb m n ≡ true
eqb_yes m n e = subst (λ (x : ℕ). eqb m x ≡ true) e (passes (eqb m m) (eqb_refl m))

pub eqb_is : (m n : ℕ) → eqb m n ≡ true → m ≡ n
eqb_is m n e = eqb→eq m n (holds (eqb m n) e)

pub ltb_is : (m n : ℕ) → ltb m n ≡ true → m < n
ltb_is m n e = ltb→lt m n (holds (ltb m n) e)

pub leb_is : (m n : ℕ) → leb m n ≡ true → m ≤ n
leb_is m n e = leb→le m n (holds (leb m n) e)

pub eqb_no : (m n : ℕ) → ¬ (m ≡ n) → eqb m n ≡ false
eqb_no m n h = fails (eqb m n) (λ e. h (eqb_is m n e))

pub ltb_no : (m n : ℕ) → n ≤ m → ltb m n ≡ false
ltb_no m n h = fails (ltb m n) (λ e. let l = ltb_is m n e in omega arith)

pub ltb_not : (m n : ℕ) → ltb m n ≡ false → n ≤ m
ltb_not m n e = let h : ¬ (m < n) = λ l. true≢false (sym (ltb_yes m n l) ∙ e) in omega arith

pub below_or_not : {X : Type 0} (m n : ℕ) → (m < n → X) → (n ≤ m → X) → X
below_or_not {X} m n below not_below = go (ltb m n) refl
  where
    go : (b : Bool) → ltb m n ≡ b → X
    go true e = below (ltb_is m n e)
    go false e = not_below (ltb_not m n e)

pub eqb_not : (m n : ℕ) → eqb m n ≡ false → ¬ (m ≡ n)
eqb_not m n e h = true≢false (sym (eqb_yes m n h) ∙ e)

pub both : (a b : Bool) → a && b ≡ true → (a ≡ true) × (b ≡ true)
both true true e = (refl, refl)
both true false e = absurd (true≢false (sym e))
both false b e = absurd (true≢false (sym e))

pub and_yes : (a b : Bool) → a ≡ true → b ≡ true → a && b ≡ true
and_yes a b p q = ap (λ (x : Bool). x && b) p ∙ q

pub and_first : (a b c : Bool) → a ≡ true → b ≡ c → a && b ≡ c
and_first a b c e h = ap (λ (x : Bool). x && b) e ∙ h

pub and_last : (a b : Bool) → b ≡ true → a && b ≡ a
and_last true b e = e
and_last false b e = refl

pub not_no : (b : Bool) → not b ≡ false → b ≡ true
not_no true e = refl
not_no false e = sym e

pub not_yes : (b : Bool) → not b ≡ true → b ≡ false
not_yes true e = sym e
not_yes false e = refl

-- tests that hold where the other does are one
pub same_test : (a b : Bool) → (a ≡ true → b ≡ true) → (b ≡ true → a ≡ true) → a ≡ b
same_test true b f g = sym (f refl)
same_test false true f g = g refl
same_test false false f g = refl

pub eqb_swap : (m n : ℕ) → eqb m n ≡ eqb n m
eqb_swap m n = same_test (eqb m n) (eqb n m) (λ e. eqb_yes n m (sym (eqb_is m n e))) (λ e. eqb_yes m n (sym (eqb_is n m e)))
