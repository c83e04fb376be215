-- One step of the whole root by a division: from the root of n, that of n with two more digits of k bits. Assumes nothing.
use mathlib.Core.Path.{◌≡◌, sym, ap, ◌∙◌}
use Prim.Native.Nat.{ℕ, zero, suc, ◌+◌, ◌-◌, ◌*◌, ◌/◌, ◌%◌, ◌^◌, ◌≤◌, ◌<◌}
use native.Mathlib.Nat.{le_trans, le_of_eq, le_of_suc-le-suc, lt_irrefl, lt_of_le_of_lt, mul_assoc, mul_comm, mul_left_comm, mul-mul-mul_comm, mul-add, add-mul}
use native.Mathlib.Nat.{suc-mul, mul-le-mul, mul-le-mul_right, mod-lt, mod-eq_of_lt, div-add-mod', div-lt_iff_lt-mul}
use native.Mathlib.Omega.{arith}
use lib.Bits.{bit_or}
use lib.Pow.{pow_mono}
use Rattle.numbers.specs.Steps.{Leaves, Refinable}
use Rattle.numbers.proofs.Shifts.{join}
use Rattle.numbers.proofs.Squares.{sq_suc}

-- p is the old root with k zeros, b the next digit or one too large, v what b's division leaves
pub record Step (n p b v : ℕ) : Type 0 where
  pub product : p ≤ 2 ^ 54
  pub digit : b ≤ 2 ^ 27
  pub square : b * b ≤ 2 * p
  pub rest : v < 2 * p
  pub some : v < b * b → 0 < b
  pub whole : (p + b) * (p + b) + v ≡ n + b * b

positive : (v b : ℕ) → v < b * b → 0 < b
positive v zero h = absurd (lt_irrefl 0 (lt_of_le_of_lt Prim.Native.Nat.zero-le h))
positive v (suc b) h = native.Mathlib.Nat.zero-lt-suc b

module _ (q rem high low k : ℕ) (F : Refinable q rem high low k) where
  abbrev w : ℕ
  w = 2 ^ k

  abbrev n : ℕ
  n = (q * q + rem) * (2 ^ k * 2 ^ k) + high * 2 ^ k + low

  abbrev t : ℕ
  t = rem * 2 ^ k + high

  abbrev b : ℕ
  b = (rem * 2 ^ k + high) / (q * 2)

  abbrev u : ℕ
  u = (rem * 2 ^ k + high) % (q * 2)

  w_le : 2 ^ k ≤ 2 ^ 27
  w_le = pow_mono F.base

  q_pos : 0 < q * 2
  q_pos = omega (arith, F.wide, F.digit_1)

  twice : 2 * q * w ≡ 2 * (q * w)
  twice = mul_assoc 2 q w

  rem_le : rem * w ≤ 2 * (q * w)
  rem_le = le_trans (mul-le-mul_right w F.small) (le_of_eq twice)

  qw_le : q * w ≤ 2 ^ 54
  qw_le = mul-le-mul {n₁ = q} {m₁ = w} {n₂ = 2 ^ 27} {m₂ = 2 ^ 27} (omega (arith, F.root)) w_le

  b_le : b ≤ w
  b_le =
      let e : suc w * (q * 2) ≡ w * (q * 2) + q * 2 = suc-mul w (q * 2) in
      let f : w * (q * 2) ≡ 2 * (q * w) = sym (mul_assoc w q 2) ∙ mul_comm (w * q) 2 ∙ ap (λ (x : ℕ). 2 * x) (mul_comm w q) in
      le_of_suc-le-suc ((div-lt_iff_lt-mul {k = q * 2} {x = t} {y = suc w} q_pos).1 (omega (arith, rem_le, F.digit_1, F.wide)))

  v_lt : u * w + low < 2 * (q * w)
  v_lt =
      let l : suc u * w ≤ q * 2 * w = mul-le-mul_right w (mod-lt t q_pos) in
      let e : suc u * w ≡ u * w + w = suc-mul u w in
      let f : q * 2 * w ≡ 2 * (q * w) = ap (λ (x : ℕ). x * w) (mul_comm q 2) ∙ mul_assoc 2 q w in
      omega (arith, F.digit_2)

  s_le : b * b ≤ 2 * (q * w)
  s_le = le_trans (mul-le-mul b_le b_le) (le_trans (mul-le-mul_right w F.wide) (le_of_eq twice))

  whole_is : (q * w + b) * (q * w + b) + (u * w + low) ≡ n + b * b
  whole_is =
      let a1 : (q * w + b) * (q * w + b) ≡ q * w * (q * w + b) + b * (q * w + b) = add-mul (q * w) b (q * w + b) in
      let a2 : q * w * (q * w + b) ≡ q * w * (q * w) + q * w * b = mul-add (q * w) (q * w) b in
      let a3 : b * (q * w + b) ≡ b * (q * w) + b * b = mul-add b (q * w) b in
      let a4 : b * (q * w) ≡ q * w * b = mul_comm b (q * w) in
      let b1 : (q * q + rem) * (w * w) ≡ q * q * (w * w) + rem * (w * w) = add-mul (q * q) rem (w * w) in
      let b2 : q * q * (w * w) ≡ q * w * (q * w) = mul-mul-mul_comm q q w w in
      let b3 : rem * (w * w) ≡ rem * w * w = sym (mul_assoc rem w w) in
      let c1 : t * w ≡ rem * w * w + high * w = add-mul (rem * w) high w in
      let c2 : t * w ≡ b * (q * 2) * w + u * w = ap (λ (x : ℕ). x * w) (sym (div-add-mod' t (q * 2))) ∙ add-mul (b * (q * 2)) u w in
      let c3 : b * (q * 2) * w ≡ 2 * (q * w * b) = simp (mul_assoc, mul_comm, mul_left_comm) in
      omega arith

  plain : Step n (q * w) b (u * w + low)
  plain = record { product = qw_le; digit = le_trans b_le w_le; square = s_le; rest = v_lt; some = positive (u * w + low) b; whole = whole_is }

  -- as the code has them
  t_is : bit_or (rem * 2 ^ k % 2 ^ 64) high ≡ rem * 2 ^ k + high
  t_is = join 64 rem k high (omega (arith, rem_le, qw_le)) F.digit_1

  v_is : bit_or (u * 2 ^ k % 2 ^ 64) low ≡ u * 2 ^ k + low
  v_is = join 64 u k low (omega (arith, v_lt, qw_le)) F.digit_2

  p_is : q * 2 ^ k % 2 ^ 64 ≡ q * 2 ^ k
  p_is = mod-eq_of_lt (omega (arith, qw_le))

  pub step : Step n (q * 2 ^ k % 2 ^ 64) (bit_or (rem * 2 ^ k % 2 ^ 64) high / (q * 2)) (bit_or (bit_or (rem * 2 ^ k % 2 ^ 64) high % (q * 2) * 2 ^ k % 2 ^ 64) low)
  step = rw (t_is, v_is, p_is) plain

-- b is the root's digit, or one too large
pub kept : (n p b v : ℕ) → Step n p b v → b * b ≤ v → Leaves n (p + b) (v - b * b)
kept n p b v s h =
    let e = s.whole in
    let l = s.rest in
    record { is = omega arith; small = omega arith }

pub lowered : (n p b v : ℕ) → Step n p b v → v < b * b → Leaves n (p + b - 1) (v + ((p + b) * 2 - 1) - b * b)
lowered n p b v s h =
    let e = s.whole in
    let i = s.some h in
    let f = s.square in
    let g = sq_suc (p + b - 1) in
    let j : p + b - 1 + 1 ≡ p + b = omega arith in
    let l : (p + b - 1 + 1) * (p + b - 1 + 1) ≡ (p + b) * (p + b) = ap (λ (x : ℕ). x * x) j in
    record { is = omega arith; small = omega arith }
