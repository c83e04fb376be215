-- A difference of two finite f64 is zero exactly where they are equal: what is left of two different ones is at least the smallest f64. Assumes nothing.
use mathlib.Core.Path.{◌≡◌, refl, sym, ap, ◌∙◌}
use Prim.Native.Nat.{ℕ, zero, suc, ◌+◌, ◌-◌, ◌*◌, ◌^◌, ◌≤◌, ◌<◌}
use native.Mathlib.Nat.{le_trans, le_of_eq, lt_irrefl, zero-lt-suc, zero-mul, one-mul, add-mul, mul_comm, mul_assoc, mul_right_comm, mul-pos, mul-sub, suc-mul}
use native.Mathlib.Omega.{arith}
use mathlib.Core.Bool.{Bool, true, false, not, ◌&&◌, ◌||◌, beq, cond, true≢false}
use borrow.Author.Tests.{eq-eqb, ne_eqb, ltb-true, ltb-false}
use lib.Dec.{T, ltb, eqb, ltb→lt}
use lib.Pow.{pow_pos}
use lib.IntN.{ℤ, pos}
use lib.Ieee.{Float, nan, inf, fin, binary64, up, down, level, round, neg, sum, eq, fits, of_bits}
use lib.Ieee.Fits.{up_pos, down_pos}
use lib.Ieee.Order.{round_mono}
use lib.Ieee.Positive.{positive, above, above_of_le}
use Rattle.numbers.specs.Arithmetic.{minus, zero64}
use Rattle.numbers.specs.Finite.{finite}
use Rattle.numbers.specs.Value.{units_in}
use Rattle.numbers.specs.Zeros.{unsigned, Alike}
use Rattle.numbers.proofs.Values.{eq_is, minus_is, round_neg}
use Rattle.numbers.proofs.Units.{units_exact}
use Rattle.numbers.proofs.Constants.{zero_is}
use Rattle.numbers.proofs.Finite.{minus_self}
use Rattle.numbers.proofs.Zeros.{alike_minus}
use Rattle.numbers.proofs.Comparisons.{alike_eq, alike_of_equal, equal_of_zero}

-- ---- what is at least the smallest f64 does not round to zero
least : T (positive (round binary64 false 1 (2 ^ 1074)))
unfolding round
least = tt

apart : (s : Bool) (m : ℕ) (e : ℤ) → 0 < m → eq (fin s m e) zero64 ≡ false
unfolding eq of_bits
apart s m e h =
    let a = m * up e * 1 in
    let b = 0 * 1 * down e in
    let z : b ≡ 0 = zero-mul (down e) in
    let A : 0 < a = mul-pos (mul-pos h (up_pos e)) (zero-lt-suc 0) in
    ap (λ (t : Bool). t && (beq s false || eqb a 0)) (ne_eqb a b (λ k. lt_irrefl 0 (rw (k ∙ z) at A)))

above_apart : (x : Float) → T (above x) → (eq x zero64 ≡ false) × (eq (neg x) zero64 ≡ false)
unfolding eq neg of_bits
above_apart nan h = absurd h
above_apart (inf s) h = (refl, refl)
above_apart (fin true m e) h = absurd h
above_apart (fin false m e) h = (apart false m e (ltb→lt 0 m h), apart true m e (ltb→lt 0 m h))

pub some_left : (s : Bool) (k c : ℕ) → 0 < c → c ≤ k * 2 ^ 1074 → eq (round binary64 s k c) zero64 ≡ false
some_left s k c C h = go s (above_apart (round binary64 false k c) (above_of_le (round binary64 false 1 (2 ^ 1074)) (round binary64 false k c) least (round_mono binary64 1 (2 ^ 1074) k c (pow_pos 1074) C (le_trans (le_of_eq (one-mul c)) h))))
  where
    go : (s : Bool) → (eq (round binary64 false k c) zero64 ≡ false) × (eq (neg (round binary64 false k c)) zero64 ≡ false) → eq (round binary64 s k c) zero64 ≡ false
    go false p = p.0
    go true p = rw (round_neg binary64 k c) p.1

-- k / c is w of the smallest f64
none_left : (s : Bool) (k c w : ℕ) → 0 < c → k * 2 ^ 1074 ≡ w * c → eq (round binary64 s k c) zero64 ≡ true → k ≡ 0
none_left s zero c w C e h = refl
none_left s (suc k) c zero C e h = absurd (lt_irrefl 0 (rw (e ∙ zero-mul c) at (mul-pos (zero-lt-suc k) (pow_pos 1074))))
none_left s (suc k) c (suc w) C e h = absurd (true≢false (sym h ∙ some_left s (suc k) c C (le_trans (omega (arith, suc-mul w c)) (le_of_eq (sym e)))))

less : (x y z : ℕ) → (x - y) * z ≡ x * z - y * z
less x y z = cc (mul_comm (x - y) z, mul-sub z x y, mul_comm z x, mul_comm z y)

level_same : (s : Bool) (a b : ℕ) → a ≡ b → level s a s b ≡ true
level_same true a b e = rw (eq-eqb a b e)
level_same false a b e = rw (eq-eqb a b e)

no_sizes : (s t : Bool) → level s 0 t 0 ≡ true
no_sizes true true = refl
no_sizes true false = refl
no_sizes false true = refl
no_sizes false false = refl

level_none : (s t : Bool) (a b : ℕ) → a + b ≡ 0 → level s a t b ≡ true
level_none s t a b e =
    let x : a ≡ 0 = omega arith in
    let y : b ≡ 0 = omega arith in
    rw (x, y) (no_sizes s t)

-- ---- two sizes a / c and b / c, which are u and v of the smallest f64
module _ (a b c u v : ℕ) (C : 0 < c) (U : a * 2 ^ 1074 ≡ u * c) (W : b * 2 ^ 1074 ≡ v * c) where
  together : (s : Bool) → eq (round binary64 s (a + b) c) zero64 ≡ true → a + b ≡ 0
  together s h = none_left s (a + b) c (u + v) C (cc (add-mul a b (2 ^ 1074), add-mul u v c)) h

  left_over : (p q r : Bool) → ltb a b ≡ p → eq (cond p (round binary64 q (b - a) c) (round binary64 r (a - b) c)) zero64 ≡ true → a ≡ b
  left_over true q r k h =
      let l = ltb-true a b k in
      let z = none_left q (b - a) c (v - u) C (cc (less b a (2 ^ 1074), less v u c)) h in
      absurd (omega arith)
  left_over false q r k h =
      let l = ltb-false a b k in
      let z = none_left r (a - b) c (u - v) C (cc (less a b (2 ^ 1074), less u v c)) h in
      omega arith

  level_of_sum : (s t : Bool) → eq (sum binary64 s a (not t) b c) zero64 ≡ true → level s a t b ≡ true
  unfolding sum
  level_of_sum true true h = level_same true a b (left_over (ltb a b) false (ltb b a) refl h)
  level_of_sum false false h = level_same false a b (left_over (ltb a b) true false refl h)
  level_of_sum true false h = level_none true false a b (together true h)
  level_of_sum false true h = level_none false true a b (together false h)

-- ---- the law, both ways
pub equal_of_difference : (x y : Float) → T (fits binary64 x) → T (fits binary64 y) → T (finite x) → T (finite y) → eq (minus x y) zero64 ≡ true → eq x y ≡ true
equal_of_difference nan y f g i j h = absurd i
equal_of_difference (inf s) y f g i j h = absurd i
equal_of_difference (fin s m e) nan f g i j h = absurd j
equal_of_difference (fin s m e) (inf t) f g i j h = absurd j
equal_of_difference (fin s m e) (fin t n d) f g i j h =
    let a = m * up e * down d in
    let b = n * up d * down e in
    let u = units_in (fin s m e) in
    let v = units_in (fin t n d) in
    let U : a * 2 ^ 1074 ≡ u * (down e * down d) = mul_right_comm (m * up e) (down d) (2 ^ 1074) ∙ ap (λ (x : ℕ). x * down d) (units_exact s m e f).1 ∙ mul_assoc u (down e) (down d) in
    let W : b * 2 ^ 1074 ≡ v * (down e * down d) = mul_right_comm (n * up d) (down e) (2 ^ 1074) ∙ ap (λ (x : ℕ). x * down e) (units_exact t n d g).1 ∙ mul_assoc v (down d) (down e) ∙ ap (λ (x : ℕ). v * x) (mul_comm (down d) (down e)) in
    eq_is s m e t n d ∙ level_of_sum a b (down e * down d) u v (mul-pos (down_pos e) (down_pos d)) U W s t (rw (minus_is s m e t n d) at h)

pub difference_of_equal : (x y : Float) → T (fits binary64 x) → T (fits binary64 y) → T (finite y) → eq x y ≡ true → eq (minus x y) zero64 ≡ true
difference_of_equal x y f g j h =
    let a : Alike (minus x y) zero64 = alike_minus x y y y f g g g (alike_of_equal x y f g h) refl ∙ ap unsigned (minus_self y j ∙ sym zero_is) in
    alike_eq (minus x y) zero64 zero64 zero64 a refl ∙ ap (λ (z : Float). eq z zero64) zero_is ∙ equal_of_zero false (pos 0)
