-- The middle between the rounded root and another number of 53 digits, against the true root, on plain numbers. Assumes nothing.
-- p is the number whose root is taken, q its whole root of 54 digits, and r = (q + 1) / 2 the root of 53 digits, all with J zeros left away.
use mathlib.Core.Path.{◌≡◌, sym, ap, ◌∙◌, subst}
use mathlib.Core.Logic.{◌⊎◌, inl, inr}
use Prim.Native.Nat.{ℕ, zero, suc, ◌+◌, ◌-◌, ◌*◌, ◌/◌, ◌%◌, ◌^◌, ◌≤◌, ◌<◌, zero-le}
use native.Mathlib.Nat.{le_trans, le_of_eq, le_of_lt, lt_of_lt_of_le, lt_of_le_of_lt, lt_of_not-le, not-le_of_lt, mul-one, one-mul, mul_assoc, mul_left_comm}
use native.Mathlib.Nat.{mul-mul-mul_comm, add-mul, mul-pos, mul-le-mul, mul-le-mul_left, mul-le-mul_right, mul-lt-mul_of_pos_right, lt_of_mul-lt-mul_right}
use native.Mathlib.Nat.{le_of_mul-le-mul_right, two-mul}
use native.Mathlib.Decide.{dec_le}
use native.Mathlib.Omega.{arith}
use lib.Pow.{pow-add, pow_pos, pow_mono, shl_lt}
use lib.Bits.{shifted_even}
use lib.Ieee.{size}
use lib.Ieee.Digits.{size-lt, size-le, size_reaches}
use Rattle.numbers.proofs.Squares.{sq_odd}
use Rattle.numbers.proofs.WholeRoot.{IsRoot}
use Rattle.numbers.proofs.RootPattern.{size_gt}

-- ---- on plain numbers: an n of 53 digits at most, with k zeros after it, against r * 2 ^ (J + 1), for an r of 53 digits
square_lt : (a b : ℕ) → a < b → a * a < b * b
square_lt a b h = lt_of_le_of_lt (mul-le-mul_left a (le_of_lt h)) (mul-lt-mul_of_pos_right h (lt_of_le_of_lt zero-le h))

-- either a multiple of 2 ^ (J + 1), or below 2 ^ 53 * 2 ^ J
grid : (n k J : ℕ) → n < 2 ^ 53 → ((y : ℕ) × (n * 2 ^ k ≡ y * 2 ^ (J + 1))) ⊎ (n * 2 ^ k < 2 ^ 52 * 2 ^ (J + 1))
grid n k J h = go (dec_le (J + 1) k)
  where
    go : Dec (J + 1 ≤ k) → ((y : ℕ) × (n * 2 ^ k ≡ y * 2 ^ (J + 1))) ⊎ (n * 2 ^ k < 2 ^ 52 * 2 ^ (J + 1))
    go (yes l) =
        let e : k ≡ k - (J + 1) + (J + 1) = omega arith in
        inl (n * 2 ^ (k - (J + 1)), ap (λ (x : ℕ). n * x) (ap (λ (x : ℕ). 2 ^ x) e ∙ pow-add 2 (k - (J + 1)) (J + 1)) ∙ sym (mul_assoc n (2 ^ (k - (J + 1))) (2 ^ (J + 1))))
    go (no l) =
        let g : k < J + 1 = lt_of_not-le l in
        let d : 53 + k ≤ 52 + (J + 1) = omega arith in
        inr (lt_of_lt_of_le (shl_lt 53 k h) (le_trans (pow_mono d) (le_of_eq (pow-add 2 52 (J + 1)))))

-- the middle of r * D and what is a step above or below
up_step : (r y D : ℕ) → r * D < y * D → (2 * r + 1) * D ≤ r * D + y * D
up_step r y D h =
    let l : r + 1 ≤ y = native.Mathlib.Numerals.add-one-le (lt_of_mul-lt-mul_right D h) in
    le_trans (mul-le-mul_right {m = 2 * r + 1} {n = r + y} D (omega arith)) (le_of_eq (add-mul r y D))

down_step : (r y D : ℕ) → y + D ≤ r * D → r * D + y + D ≤ 2 * r * D
down_step r y D h =
    let e : 2 * r * D ≡ r * D + r * D = mul_assoc 2 r D ∙ two-mul (r * D) in
    omega arith

-- D is 2 * c, so four times p * c * c is p * D * D
module _ (p q D : ℕ) (R : IsRoot p q) (Dp : 0 < D) where
  over : (a s : ℕ) → q + 1 ≤ a → a * D ≤ s → p * (D * D) < s * s
  over a s h l =
      lt_of_lt_of_le (mul-lt-mul_of_pos_right (lt_of_lt_of_le R.1 (mul-le-mul h h)) (mul-pos Dp Dp))
      (le_trans (le_of_eq (mul-mul-mul_comm a a D D)) (mul-le-mul l l))

  under_even : (s : ℕ) → s < q * D → s * s < p * (D * D)
  under_even s h = lt_of_lt_of_le (square_lt s (q * D) h) (le_trans (le_of_eq (mul-mul-mul_comm q D q D)) (mul-le-mul_right (D * D) R.0))

  under_odd : (s : ℕ) → (q * q ≡ p → ⊥) → s ≤ q * D → s * s < p * (D * D)
  under_odd s n h = lt_of_le_of_lt (mul-le-mul h h) (lt_of_le_of_lt (le_of_eq (mul-mul-mul_comm q D q D)) (mul-lt-mul_of_pos_right (lib.Arith.lt_of_le-ne R.0 n) (mul-pos Dp Dp)))

pub odd_square : (q p : ℕ) → q % 2 ≡ 1 → p % 2 ≡ 0 → q * q ≡ p → ⊥
odd_square q p o z e =
    let h : q ≡ q / 2 * 2 + 1 = omega arith in
    let f : q * q ≡ 4 * (q / 2 * (q / 2)) + 4 * (q / 2) + 1 = ap (λ (x : ℕ). x * x) h ∙ sq_odd (q / 2) in
    omega arith

module _ (p q J : ℕ) (R : IsRoot p q) (lo : 2 ^ 53 ≤ q) (z : p % 2 ≡ 0) (n k : ℕ) (few : n < 2 ^ 53) where
  abbrev D : ℕ
  D = 2 ^ (J + 1)

  abbrev r : ℕ
  r = (q + 1) / 2

  Dp : 0 < 2 ^ (J + 1)
  Dp = pow_pos (J + 1)

  r_big : 2 ^ 52 ≤ (q + 1) / 2
  r_big = omega arith

  pub above : r * D < n * 2 ^ k → p * (D * D) < (r * D + n * 2 ^ k) * (r * D + n * 2 ^ k)
  above h = go (grid n k J few)
    where
      go : ((y : ℕ) × (n * 2 ^ k ≡ y * D)) ⊎ (n * 2 ^ k < 2 ^ 52 * D) → p * (D * D) < (r * D + n * 2 ^ k) * (r * D + n * 2 ^ k)
      go (inl s) =
          rw s.1 (over p q D R Dp (2 * r + 1) (r * D + s.0 * D) (omega arith) (up_step r s.0 D (rw s.1 at h)))
      go (inr l) = absurd (not-le_of_lt (lt_of_lt_of_le l (mul-le-mul_right D r_big)) (le_of_lt h))

  -- where q is odd, r is rounded up, and is above 2 ^ 52
  a_step : q % 2 ≡ 1 → n * 2 ^ k < r * D → n * 2 ^ k + D ≤ r * D
  a_step o h = go (grid n k J few)
    where
      go : ((y : ℕ) × (n * 2 ^ k ≡ y * D)) ⊎ (n * 2 ^ k < 2 ^ 52 * D) → n * 2 ^ k + D ≤ r * D
      go (inl s) =
          let l : s.0 < r = lt_of_mul-lt-mul_right D (rw s.1 at h) in
          let e : suc s.0 * D ≡ s.0 * D + D = native.Mathlib.Nat.suc-mul s.0 D in
          let g : suc s.0 * D ≤ r * D = mul-le-mul_right D l in
          let t = s.1 in
          omega arith
      go (inr l) =
          let g : (2 ^ 52 + 1) * D ≤ r * D = mul-le-mul_right {m = 2 ^ 52 + 1} {n = r} D (omega arith) in
          let e : (2 ^ 52 + 1) * D ≡ 2 ^ 52 * D + 1 * D = add-mul (2 ^ 52) 1 D in
          omega arith

  pub beneath : n * 2 ^ k < r * D → (r * D + n * 2 ^ k) * (r * D + n * 2 ^ k) < p * (D * D)
  beneath h = go (dec_le (q % 2) 0)
    where
      go : Dec (q % 2 ≤ 0) → (r * D + n * 2 ^ k) * (r * D + n * 2 ^ k) < p * (D * D)
      go (yes e) =
          let t : 2 * r ≡ q = omega arith in
          let u : q * D ≡ r * D + r * D = ap (λ (x : ℕ). x * D) (sym t) ∙ mul_assoc 2 r D ∙ two-mul (r * D) in
          under_even p q D R Dp (r * D + n * 2 ^ k) (omega arith)
      go (no e) =
          let o : q % 2 ≡ 1 = omega arith in
          let t : 2 * r ≡ q + 1 = omega arith in
          let u : 2 * r * D ≡ q * D + 1 * D = ap (λ (x : ℕ). x * D) t ∙ add-mul q 1 D in
          let v = down_step r (n * 2 ^ k) D (a_step o h) in
          under_odd p q D R Dp (r * D + n * 2 ^ k) (odd_square q p o z) (omega arith)

-- ---- the root's pattern, for m * 2 ^ j units
pub record Scaled (u : ℕ) : Type 0 where
  pub J : ℕ
  pub M : ℕ
  pub is : u * 2 ^ 1074 ≡ M * 2 ^ 54 * 2 ^ (2 * J)
  pub low : 2 ^ 52 ≤ M
  pub high : M ≤ 2 ^ 54 - 2
  pub most : J ≤ 2000

even_or_short : (m i : ℕ) → m < 2 ^ 53 → m * 2 ^ i < 2 ^ 54 → m * 2 ^ i ≤ 2 ^ 54 - 2
even_or_short m zero h l = omega (arith, mul-one m)
even_or_short m (suc i) h l = omega (arith, shifted_even m i)

pub scaled : (m j : ℕ) → 0 < m → m < 2 ^ 53 → j ≤ 2097 → Scaled (m * 2 ^ j)
scaled m j p h jm =
    let N = m * 2 ^ j * 2 ^ 1074 in
    let N-is : N ≡ m * 2 ^ (j + 1074) = mul_assoc m (2 ^ j) (2 ^ 1074) ∙ ap (λ (x : ℕ). m * x) (sym (pow-add 2 j 1074)) in
    let z = size N in
    let z-hi : z ≤ 53 + (j + 1074) = size-le N (53 + (j + 1074)) (subst (λ (x : ℕ). x < 2 ^ (53 + (j + 1074))) (sym N-is) (shl_lt 53 (j + 1074) h)) in
    let z-lo : 1074 < z = size_gt N 1074 (le_trans (le_of_eq (sym (one-mul (2 ^ 1074)))) (mul-le-mul_right {m = 1} {n = m * 2 ^ j} (2 ^ 1074) (mul-pos p (pow_pos j)))) in
    let J = (z - 107) / 2 in
    let i = j + 1020 - 2 * J in
    let s : j + 1074 ≡ i + (54 + 2 * J) = omega arith in
    let t : N ≡ m * 2 ^ i * 2 ^ (54 + 2 * J) = N-is ∙ ap (λ (x : ℕ). m * x) (ap (λ (x : ℕ). 2 ^ x) s ∙ pow-add 2 i (54 + 2 * J)) ∙ sym (mul_assoc m (2 ^ i) (2 ^ (54 + 2 * J))) in
    let a : 52 + (54 + 2 * J) ≤ z - 1 = omega arith in
    let b : z ≤ 54 + (54 + 2 * J) = omega arith in
    let g : z - 1 < z = omega arith in
    let lo : 2 ^ 52 ≤ m * 2 ^ i = le_of_mul-le-mul_right {k = 2 ^ (54 + 2 * J)} (le_trans (le_of_eq (sym (pow-add 2 52 (54 + 2 * J)))) (le_trans (pow_mono a) (le_trans (size_reaches N (z - 1) g) (le_of_eq t)))) (pow_pos (54 + 2 * J)) in
    let hi : m * 2 ^ i < 2 ^ 54 = lt_of_mul-lt-mul_right (2 ^ (54 + 2 * J)) (lt_of_le_of_lt (le_of_eq (sym t)) (lt_of_lt_of_le (size-lt N) (le_trans (pow_mono b) (le_of_eq (pow-add 2 54 (54 + 2 * J)))))) in
    record {
      J = J;
      M = m * 2 ^ i;
      is = t ∙ ap (λ (x : ℕ). m * 2 ^ i * x) (pow-add 2 54 (2 * J)) ∙ sym (mul_assoc (m * 2 ^ i) (2 ^ 54) (2 ^ (2 * J)));
      low = lo;
      high = even_or_short m i h hi;
      most = omega arith;
    }

pub four_times : (u p J : ℕ) → u * 2 ^ 1074 ≡ p * 2 ^ (2 * J) → 4 * (u * 2 ^ 1074) ≡ p * (2 ^ (J + 1) * 2 ^ (J + 1))
four_times u p J e =
    let s : J + 1 + (J + 1) ≡ 2 + 2 * J = omega arith in
    ap (λ (x : ℕ). 4 * x) e ∙ mul_left_comm 4 p (2 ^ (2 * J)) ∙ ap (λ (x : ℕ). p * x) (sym (sym (pow-add 2 (J + 1) (J + 1)) ∙ ap (λ (x : ℕ). 2 ^ x) s ∙ pow-add 2 2 (2 * J)))
