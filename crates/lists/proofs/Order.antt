-- Finite f64 are in one order: `<` and `==` are those of fractions. Assumes nothing.
use mathlib.Core.Path.{◌≡◌, refl, sym, ap, ◌∙◌}
use mathlib.Core.Logic.{◌⊎◌, inl, inr}
use Prim.Native.Nat.{ℕ, ◌+◌, ◌*◌, ◌<◌}
use native.Mathlib.Nat.{mul-lt-mul_of_pos_right, lt_of_mul-lt-mul_right, le_antisymm, zero-lt-suc, zero-mul}
use native.Mathlib.Omega.{arith}
use mathlib.Core.Bool.{Bool, true, false, ◌&&◌, true≢false}
use lib.Dec.{ltb, eqb}
use lib.Ieee.{Float, nan, inf, fin, up, down, below, level, lt, eq}
use lib.Ieee.Fits.{down_pos}
use Rattle.numbers.specs.Finite.{finite}
use Rattle.lists.proofs.Tests.{ltb_yes, ltb_no, ltb_is, eqb_yes, eqb_is, both, and_yes, same_test, eqb_swap, below_or_not}

-- ---- a number with a sign as a difference of two: a - 0, or 0 - a
high : Bool → ℕ → ℕ
high false a = a
high true a = 0

low : Bool → ℕ → ℕ
low false a = 0
low true a = a

high_times : (s : Bool) (a k : ℕ) → high s (a * k) ≡ high s a * k
unfolding high
high_times false a k = refl
high_times true a k = sym (zero-mul k)

low_times : (s : Bool) (a k : ℕ) → low s (a * k) ≡ low s a * k
unfolding low
low_times false a k = sym (zero-mul k)
low_times true a k = refl

-- the tests by sign and size are those of the differences
below_is : (s : Bool) (a : ℕ) (t : Bool) (b : ℕ) → below s a t b ≡ ltb (high s a + low t b) (high t b + low s a)
unfolding high low
below_is false a false b = let p : a + 0 ≡ a = omega arith in let q : b + 0 ≡ b = omega arith in rw (p, q)
below_is false a true b = sym (ltb_no (a + b) (0 + 0) (omega arith))
below_is true a false b = let p : a + b ≡ b + a = omega arith in rw p
below_is true a true b = let p : 0 + a ≡ a = omega arith in let q : 0 + b ≡ b = omega arith in rw (p, q)

same_sign : (a b : ℕ) → eqb a b && true ≡ eqb a b
same_sign a b = same_test (eqb a b && true) (eqb a b) (λ e. (both (eqb a b) true e).0) (λ e. and_yes (eqb a b) true e refl)

other_sign : (a b : ℕ) → eqb a b && eqb a 0 ≡ eqb (a + b) 0
other_sign a b =
    same_test (eqb a b && eqb a 0) (eqb (a + b) 0)
    (λ e. let w = both (eqb a b) (eqb a 0) e in let x = eqb_is a b w.0 in let y = eqb_is a 0 w.1 in eqb_yes (a + b) 0 (omega arith))
    (λ e. let x = eqb_is (a + b) 0 e in and_yes (eqb a b) (eqb a 0) (eqb_yes a b (omega arith)) (eqb_yes a 0 (omega arith)))

level_is : (s : Bool) (a : ℕ) (t : Bool) (b : ℕ) → level s a t b ≡ eqb (high s a + low t b) (high t b + low s a)
unfolding high low
level_is false a false b = let p : a + 0 ≡ a = omega arith in let q : b + 0 ≡ b = omega arith in rw (p, q) (same_sign a b)
level_is false a true b = other_sign a b
level_is true a false b = let p : a + b ≡ b + a = omega arith in other_sign a b ∙ rw p (eqb_swap (b + a) 0)
level_is true a true b = let p : 0 + a ≡ a = omega arith in let q : 0 + b ≡ b = omega arith in rw (p, q) (same_sign a b ∙ eqb_swap a b)

-- ---- a finite number is (above - under) / parts
above : Float → ℕ
above nan = 0
above (inf s) = 0
above (fin s m e) = high s (m * up e)

under : Float → ℕ
under nan = 0
under (inf s) = 0
under (fin s m e) = low s (m * up e)

parts : Float → ℕ
parts nan = 1
parts (inf s) = 1
parts (fin s m e) = down e

parts_some : (x : Float) → 0 < parts x
unfolding parts
parts_some nan = zero-lt-suc 0
parts_some (inf s) = zero-lt-suc 0
parts_some (fin s m e) = down_pos e

lt_is : (x y : Float) → finite x ≡ true → finite y ≡ true → lt x y ≡ ltb (above x * parts y + under y * parts x) (above y * parts x + under x * parts y)
unfolding lt above under parts
lt_is nan y f g = absurd (true≢false (sym f))
lt_is (inf s) y f g = absurd (true≢false (sym f))
lt_is (fin s m e) nan f g = absurd (true≢false (sym g))
lt_is (fin s m e) (inf t) f g = absurd (true≢false (sym g))
lt_is (fin s m e) (fin t n d) f g =
    below_is s (m * up e * down d) t (n * up d * down e)
    ∙ rw (high_times s (m * up e) (down d), low_times t (n * up d) (down e), high_times t (n * up d) (down e), low_times s (m * up e) (down d))

eq_is : (x y : Float) → finite x ≡ true → finite y ≡ true → eq x y ≡ eqb (above x * parts y + under y * parts x) (above y * parts x + under x * parts y)
unfolding eq above under parts
eq_is nan y f g = absurd (true≢false (sym f))
eq_is (inf s) y f g = absurd (true≢false (sym f))
eq_is (fin s m e) nan f g = absurd (true≢false (sym g))
eq_is (fin s m e) (inf t) f g = absurd (true≢false (sym g))
eq_is (fin s m e) (fin t n d) f g =
    level_is s (m * up e * down d) t (n * up d * down e)
    ∙ rw (high_times s (m * up e) (down d), low_times t (n * up d) (down e), high_times t (n * up d) (down e), low_times s (m * up e) (down d))

-- ---- the order
module _ (x y : Float) (f : finite x ≡ true) (g : finite y ≡ true) where
  -- x's fraction and y's, each over the parts of both
  abbrev ours : ℕ
  ours = above x * parts y + under y * parts x

  abbrev theirs : ℕ
  theirs = above y * parts x + under x * parts y

  lt_fact : lt x y ≡ true → ours < theirs
  lt_fact h = ltb_is ours theirs (sym (lt_is x y f g) ∙ h)

  eq_fact : eq x y ≡ true → ours ≡ theirs
  eq_fact h = eqb_is ours theirs (sym (eq_is x y f g) ∙ h)

  lt_test : ours < theirs → lt x y ≡ true
  lt_test h = lt_is x y f g ∙ ltb_yes ours theirs h

  eq_test : ours ≡ theirs → eq x y ≡ true
  eq_test h = eq_is x y f g ∙ eqb_yes ours theirs h

module _ (x y : Float) (f : finite x ≡ true) (g : finite y ≡ true) where
  pub lt_or_eq : (lt x y ≡ true) ⊎ ((eq x y ≡ true) ⊎ (lt y x ≡ true))
  lt_or_eq =
      below_or_not (ours x y f g) (theirs x y f g) (λ h. inl (lt_test x y f g h))
      (λ h. below_or_not (theirs x y f g) (ours x y f g) (λ k. inr (inr (lt_test y x g f k))) (λ k. inr (inl (eq_test x y f g (le_antisymm k h)))))

  pub eq_swap : eq x y ≡ true → eq y x ≡ true
  eq_swap h = eq_test y x g f (sym (eq_fact x y f g h))

  pub lt_not_eq : lt x y ≡ true → eq x y ≡ true → ⊥
  lt_not_eq h k = let a = lt_fact x y f g h in let b = eq_fact x y f g k in omega arith

pub lt_not_self : (x : Float) → finite x ≡ true → lt x x ≡ true → ⊥
lt_not_self x f h = let a = lt_fact x x f f h in omega arith

-- p / b < r / c and r / c < s / d: each over the three together
module _ (p q b r s c t u d : ℕ) (hb : 0 < b) (hc : 0 < c) (hd : 0 < d) where
  lt_lt : p * c + s * b < r * b + q * c → r * d + u * c < t * c + s * d → p * d + u * b < t * b + q * d
  lt_lt h k = lt_of_mul-lt-mul_right c (omega (arith, mul-lt-mul_of_pos_right h hd, mul-lt-mul_of_pos_right k hb))

  lt_eq : p * c + s * b < r * b + q * c → r * d + u * c ≡ t * c + s * d → p * d + u * b < t * b + q * d
  lt_eq h k = lt_of_mul-lt-mul_right c (omega (arith, mul-lt-mul_of_pos_right h hd, ap (λ (n : ℕ). n * b) k))

  eq_lt : p * c + s * b ≡ r * b + q * c → r * d + u * c < t * c + s * d → p * d + u * b < t * b + q * d
  eq_lt h k = lt_of_mul-lt-mul_right c (omega (arith, ap (λ (n : ℕ). n * d) h, mul-lt-mul_of_pos_right k hb))

module _ (x y z : Float) (f : finite x ≡ true) (g : finite y ≡ true) (h : finite z ≡ true) where
  pub lt_then_lt : lt x y ≡ true → lt y z ≡ true → lt x z ≡ true
  lt_then_lt a b = lt_test x z f h (lt_lt _ _ _ _ _ _ _ _ _ (parts_some x) (parts_some y) (parts_some z) (lt_fact x y f g a) (lt_fact y z g h b))

  pub lt_then_eq : lt x y ≡ true → eq y z ≡ true → lt x z ≡ true
  lt_then_eq a b = lt_test x z f h (lt_eq _ _ _ _ _ _ _ _ _ (parts_some x) (parts_some y) (parts_some z) (lt_fact x y f g a) (eq_fact y z g h b))

  pub eq_then_lt : eq x y ≡ true → lt y z ≡ true → lt x z ≡ true
  eq_then_lt a b = lt_test x z f h (eq_lt _ _ _ _ _ _ _ _ _ (parts_some x) (parts_some y) (parts_some z) (eq_fact x y f g a) (lt_fact y z g h b))

-- what is neither below nor above is equal, and what is equal to an equal is neither
pub eq_then_eq : (x y z : Float) → finite x ≡ true → finite y ≡ true → finite z ≡ true → eq x y ≡ true → eq y z ≡ true → eq x z ≡ true
eq_then_eq x y z f g h a b = go (lt_or_eq x z f h)
  where
    go : (lt x z ≡ true) ⊎ ((eq x z ≡ true) ⊎ (lt z x ≡ true)) → eq x z ≡ true
    go (inl l) = absurd (lt_not_eq y z g h (eq_then_lt y x z g f h (eq_swap x y f g a) l) b)
    go (inr (inl e)) = e
    go (inr (inr l)) = absurd (lt_not_eq z y h g (lt_then_eq z x y h f g l a) (eq_swap y z g h b))
