-- What `parts` makes of a pattern, on plain numbers. Assumes nothing.
use mathlib.Core.Path.{◌≡◌, refl, sym, ap, ◌∙◌, subst}
use Prim.Native.Nat.{ℕ, zero, suc, ◌+◌, ◌-◌, ◌*◌, ◌/◌, ◌%◌, ◌^◌, ◌≤◌, ◌<◌}
use native.Mathlib.Nat.{le_trans, le_of_eq, lt_of_lt_of_le, lt_of_not-le, not-le_of_lt, lt_irrefl, mod-eq_of_lt, mul_assoc, mul-le-mul_right, add_comm}
use native.Mathlib.Omega.{arith}
use lib.Dec.{lit≤}
use lib.Pow.{pow-add, pow_mono, shl_lt}
use lib.Bits.{bit_and, bit_or, and_mask}
use lib.Count.{count_leading_zeros, leading_top}
use Rattle.numbers.specs.Steps.{units_at, units_of, Parted}
use Rattle.numbers.proofs.Shifts.{lead}

normal_units : (x t : ℕ) → 0 < x → units_at x t * 2 ^ 52 ≡ (t + 2 ^ 52) * 2 ^ (x + 51)
normal_units zero t h = absurd (lt_irrefl 0 h)
normal_units (suc x) t h =
    let s : x + 52 ≡ suc x + 51 = omega arith in
    mul_assoc (2 ^ 52 + t) (2 ^ x) (2 ^ 52)
    ∙ ap (λ (y : ℕ). y * (2 ^ x * 2 ^ 52)) (add_comm (2 ^ 52) t)
    ∙ ap (λ (y : ℕ). (t + 2 ^ 52) * y) (sym (pow-add 2 x 52) ∙ ap (λ (y : ℕ). 2 ^ y) s)

pub normal : (b : ℕ) → b < 0x7ff0_0000_0000_0000 → 0 < b / 2 ^ 52 → Parted b (bit_or (bit_and b (2 ^ 52 - 1)) (2 ^ 52)) (b / 2 ^ 52 + 51)
normal b l h = rw (lead b 52) record { low = omega arith; high = omega arith; value = normal_units (b / 2 ^ 52) (b % 2 ^ 52) h; small = omega arith }

-- below the smallest normal value
module _ (b : ℕ) (p : 0 < b) (h : b / 2 ^ 52 ≤ 0) where
  top : (j : ℕ) × (count_leading_zeros 64 (b % 2 ^ 52) + suc j ≡ 64) × (2 ^ j ≤ b % 2 ^ 52) × (b % 2 ^ 52 < 2 ^ suc j)
  top = leading_top 64 (b % 2 ^ 52) (omega arith) (omega arith)

  short : top.0 < 52
  short = lt_of_not-le (λ (g : 52 ≤ top.0). not-le_of_lt {n = 2 ^ 52} {m = b % 2 ^ 52} (omega arith) (le_trans (pow_mono g) top.2))

  pub enough : 11 ≤ count_leading_zeros 64 (bit_and b (2 ^ 52 - 1))
  enough = rw (and_mask b 52)
      let e = top.1 in
      let s = short in
      omega arith

  pub few : count_leading_zeros 64 (bit_and b (2 ^ 52 - 1)) - 11 ≤ 52
  few = rw (and_mask b 52)
      let e = top.1 in
      omega arith

  shift : count_leading_zeros 64 (b % 2 ^ 52) - 11 ≡ 52 - top.0
  shift =
      let e = top.1 in
      omega arith

  none : (x : ℕ) → x ≤ 0 → units_at x (b % 2 ^ 52) ≡ b % 2 ^ 52
  none zero g = refl
  none (suc x) g = absurd (lt_irrefl 0 (le_trans (omega arith) g))

  module _ (j : ℕ) (J : j < 52) (lo : 2 ^ j ≤ b % 2 ^ 52) (hi : b % 2 ^ 52 < 2 ^ suc j) where
    sum : suc j + (52 - j) ≡ 53
    sum = omega arith

    sum' : j + (52 - j) ≡ 52
    sum' = omega arith

    back : 52 - (52 - j) ≡ j
    back = omega arith

    over : 2 ^ 52 ≤ b % 2 ^ 52 * 2 ^ (52 - j)
    over = le_trans (le_of_eq (ap (λ (x : ℕ). 2 ^ x) (sym sum') ∙ pow-add 2 j (52 - j))) (mul-le-mul_right (2 ^ (52 - j)) lo)

    under : b % 2 ^ 52 * 2 ^ (52 - j) < 2 ^ 53
    under = subst (λ (x : ℕ). b % 2 ^ 52 * 2 ^ (52 - j) < 2 ^ x) sum (shl_lt (suc j) (52 - j) hi)

    plain : b % 2 ^ 52 * 2 ^ (52 - j) % 2 ^ 64 ≡ b % 2 ^ 52 * 2 ^ (52 - j)
    plain = mod-eq_of_lt (lt_of_lt_of_le under (lit≤ tt))

    worth : units_of b * 2 ^ 52 ≡ b % 2 ^ 52 * 2 ^ (52 - j) * 2 ^ j
    worth =
        ap (λ (x : ℕ). x * 2 ^ 52) (none (b / 2 ^ 52) h)
        ∙ ap (λ (x : ℕ). b % 2 ^ 52 * x) (ap (λ (x : ℕ). 2 ^ x) (sym sum' ∙ add_comm j (52 - j)) ∙ pow-add 2 (52 - j) j)
        ∙ sym (mul_assoc (b % 2 ^ 52) (2 ^ (52 - j)) (2 ^ j))

    parted : Parted b (b % 2 ^ 52 * 2 ^ (52 - j) % 2 ^ 64) (52 - (52 - j))
    parted = rw (plain, back) (record { low = over; high = under; value = worth; small = omega arith })

  pub subnormal : Parted b (bit_and b (2 ^ 52 - 1) * 2 ^ (count_leading_zeros 64 (bit_and b (2 ^ 52 - 1)) - 11) % 2 ^ 64) (52 - (count_leading_zeros 64 (bit_and b (2 ^ 52 - 1)) - 11))
  subnormal = rw (and_mask b 52, shift) (parted top.0 short top.2 top.3)
