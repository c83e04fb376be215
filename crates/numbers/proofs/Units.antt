-- A finite f64 as a whole number of units of 2 ^ -1074. Assumes nothing.
use mathlib.Core.Path.{◌≡◌, refl, sym, ap, ◌∙◌, subst}
use Prim.Native.Nat.{ℕ, zero, suc, ◌*◌, ◌/◌, ◌^◌, ◌≤◌, ◌<◌}
use native.Mathlib.Nat.{le_trans, le_of_eq, le_of_suc-le-suc, lt_of_lt_of_le, lt_of_le_of_lt, lt_of_not-le, not-le_of_lt, zero-mul, one-mul, mul_comm}
use native.Mathlib.Nat.{mul_assoc, mul_right_comm, mul-pos, mul-le-mul_right, mul-lt-mul_of_pos_right, lt_of_mul-lt-mul_right, mul-div_cancel}
use mathlib.Core.Bool.{Bool, true, false}
use lib.IntN.{ℤ}
use lib.Dec.{T, ltb→lt}
use lib.Pow.{pow-add, pow_pos, pow_mono}
use lib.Ieee.{Float, nan, inf, fin, binary64, up, down, fits, lt}
use lib.Ieee.Fits.{down_pos}
use lib.Ieee.Exact.{HasValue}
use Rattle.numbers.specs.Value.{units_in, plain}
use Rattle.numbers.proofs.Values.{fit, whole_units}

-- ---- what it is to fit
pub digits_few : (s : Bool) (m : ℕ) (e : ℤ) → T (fits binary64 (fin s m e)) → m < 2 ^ 53
digits_few s zero e h = pow_pos 53
digits_few s (suc m) e h = (fit binary64 s m e h).small

pub not_over : (s : Bool) (m : ℕ) (e : ℤ) → T (fits binary64 (fin s m e)) → m * up e < 2 ^ 1024 * down e
not_over s zero e h = subst (λ (x : ℕ). x < 2 ^ 1024 * down e) (sym (zero-mul (up e))) (mul-pos (pow_pos 1024) (down_pos e))
not_over s (suc m) e h = (fit binary64 s m e h).under

-- ---- units
pub units_of_lem : (x : Float) (s : Bool) (a : ℕ) → HasValue x s a (2 ^ 1074) → units_in x ≡ a
units_of_lem nan s a h = absurd h
units_of_lem (inf t) s a h = absurd h
units_of_lem (fin t m e) s a h = ap (λ (x : ℕ). x / down e) h.1 ∙ mul-div_cancel a (down_pos e)

place : (s : Bool) (m : ℕ) (e : ℤ) → T (fits binary64 (fin s (suc m) e)) → (j : ℕ) × (suc m * up e * 2 ^ 1074 ≡ suc m * 2 ^ j * down e)
place s m e h =
    let w = whole_units 1074 e (fit binary64 s m e h).fine in
    (w.0, mul_assoc (suc m) (up e) (2 ^ 1074) ∙ ap (λ (x : ℕ). suc m * x) w.1 ∙ sym (mul_assoc (suc m) (2 ^ w.0) (down e)))

-- a finite f64 is n * 2 ^ k units, for an n of 53 digits
pub record Digits (x : Float) (n : ℕ) : Type 0 where
  pub k : ℕ
  pub few : n < 2 ^ 53
  pub is : units_in x ≡ n * 2 ^ k

module _ (s : Bool) where
  pub units_exact : (m : ℕ) (e : ℤ) → T (fits binary64 (fin s m e)) → HasValue (fin s m e) s (units_in (fin s m e)) (2 ^ 1074)
  units_exact zero e h = subst (λ (a : ℕ). HasValue (fin s zero e) s a (2 ^ 1074)) (sym (units_of_lem (fin s zero e) s 0 v)) v
    where
      v : HasValue (fin s zero e) s 0 (2 ^ 1074)
      v = (refl, ap (λ (x : ℕ). x * 2 ^ 1074) (zero-mul (up e)) ∙ zero-mul (2 ^ 1074) ∙ sym (zero-mul (down e)))
  units_exact (suc m) e h =
      let p = place s m e h in
      let v : HasValue (fin s (suc m) e) s (suc m * 2 ^ p.0) (2 ^ 1074) = (refl, p.1) in
      subst (λ (a : ℕ). HasValue (fin s (suc m) e) s a (2 ^ 1074)) (sym (units_of_lem (fin s (suc m) e) s (suc m * 2 ^ p.0) v)) v

  pub digits : (m : ℕ) (e : ℤ) → T (fits binary64 (fin s m e)) → Digits (fin s m e) m
  digits zero e h = record { k = 0; few = pow_pos 53; is = units_of_lem (fin s zero e) s 0 (refl, ap (λ (x : ℕ). x * 2 ^ 1074) (zero-mul (up e)) ∙ zero-mul (2 ^ 1074) ∙ sym (zero-mul (down e))) }
  digits (suc m) e h =
      let p = place s m e h in
      record { k = p.0; few = digits_few s (suc m) e h; is = units_of_lem (fin s (suc m) e) s (suc m * 2 ^ p.0) (refl, p.1) }

-- the order of two f64 is that of their units
cross : (a da b db u v L : ℕ) → a * L ≡ u * da → b * L ≡ v * db → 0 < L → a * db < b * da → u < v
cross a da b db u v L P Q l h =
    lt_of_mul-lt-mul_right (da * db)
    (lt_of_le_of_lt (le_of_eq (sym (mul_right_comm a db L ∙ ap (λ (x : ℕ). x * db) P ∙ mul_assoc u da db)))
    (lt_of_lt_of_le (mul-lt-mul_of_pos_right h l)
    (le_of_eq (mul_right_comm b da L ∙ ap (λ (x : ℕ). x * da) Q ∙ mul_assoc v db da ∙ ap (λ (x : ℕ). v * x) (mul_comm db da)))))

pub lt_units : (x y : Float) → T (fits binary64 x) → T (fits binary64 y) → T (plain x) → T (plain y) → T (lt x y) → units_in x < units_in y
unfolding lt
lt_units nan y f g p q h = absurd p
lt_units (inf s) y f g p q h = absurd p
lt_units (fin true m e) y f g p q h = absurd p
lt_units (fin false m e) nan f g p q h = absurd q
lt_units (fin false m e) (inf s) f g p q h = absurd q
lt_units (fin false m e) (fin true n d) f g p q h = absurd q
lt_units (fin false m e) (fin false n d) f g p q h =
    cross (m * up e) (down e) (n * up d) (down d) (units_in (fin false m e)) (units_in (fin false n d)) (2 ^ 1074) (units_exact false m e f).1 (units_exact false n d g).1 (pow_pos 1074)
    (ltb→lt (m * up e * down d) (n * up d * down e) h)

-- few zeros follow, since an f64 is below 2 ^ 1024
pub below_top : (s : Bool) (m : ℕ) (e : ℤ) → T (fits binary64 (fin s m e)) → units_in (fin s m e) < 2 ^ 2098
below_top s m e h =
    lt_of_mul-lt-mul_right (down e)
    (lt_of_le_of_lt (le_of_eq (sym (units_exact s m e h).1))
    (lt_of_lt_of_le (mul-lt-mul_of_pos_right (not_over s m e h) (pow_pos 1074))
    (le_of_eq (mul_right_comm (2 ^ 1024) (down e) (2 ^ 1074) ∙ ap (λ (x : ℕ). x * down e) (sym (pow-add 2 1024 1074))))))

pub few_zeros : (n j : ℕ) → 0 < n → n * 2 ^ j < 2 ^ 2098 → j ≤ 2097
few_zeros n j p h =
    let c : 2 ^ j < 2 ^ 2098 = lt_of_le_of_lt (le_trans (le_of_eq (sym (one-mul (2 ^ j)))) (mul-le-mul_right {m = 1} {n = n} (2 ^ j) p)) h in
    le_of_suc-le-suc (lt_of_not-le (λ (g : 2098 ≤ j). not-le_of_lt c (pow_mono g)))
