-- From the whole root of an m of 53 or 54 digits to the pattern of the root. Assumes nothing.
use mathlib.Core.Path.{◌≡◌, sym, ap, ◌∙◌, subst}
use Prim.Native.Nat.{ℕ, zero, suc, ◌+◌, ◌-◌, ◌*◌, ◌/◌, ◌%◌, ◌^◌, ◌≤◌, ◌<◌}
use native.Mathlib.Nat.{le_trans, le_of_eq, lt_of_lt_of_le, lt_of_le_of_lt, lt_of_not-le, not-le_of_lt, mul_assoc, mul-le-mul_right, mul-lt-mul_of_pos_right, mul-div_cancel, mul-one, mod-eq_of_lt}
use native.Mathlib.Omega.{arith}
use mathlib.Core.Bool.{false}
use lib.Pow.{pow-add, pow_pos, pow_mono}
use lib.Bits.{bit_and, bit_or, and_mask}
use lib.Ieee.{binary64, size, odd, of_bits}
use lib.Ieee.Digits.{size-lt, size-le}
use Rattle.numbers.specs.Root.{whole_root, root_of_units}
use Rattle.numbers.specs.Steps.{units_of, Parted, Halved}
use Rattle.numbers.proofs.Shifts.{rebuild}
use Rattle.numbers.proofs.WholeRoot.{IsRoot, whole_root_ok, unique, at_least, less_than}
use Rattle.numbers.proofs.Patterns.{written}

-- ---- how many digits N has
pub size_gt : (n j : ℕ) → 2 ^ j ≤ n → j < size n
size_gt n j h = lt_of_not-le (λ (g : size n ≤ j). not-le_of_lt (lt_of_lt_of_le (size-lt n) (pow_mono g)) h)

halves : (z j : ℕ) → z ≤ 108 + 2 * j → 106 + 2 * j < z → (z - 107) / 2 ≡ j
halves z j a b = omega arith

pub root_at : (u p j : ℕ) → u * 2 ^ 1074 ≡ p * 2 ^ (2 * j) → 2 ^ 106 ≤ p → p < 2 ^ 108 → root_of_units u ≡ odd 53 false ((whole_root p + 1) / 2) (j + 1) 1074
unfolding root_of_units
root_at u p j e lo hi =
    let N = u * 2 ^ 1074 in
    let lo' : 2 ^ (106 + 2 * j) ≤ N = le_trans (le_of_eq (pow-add 2 106 (2 * j))) (le_trans (mul-le-mul_right (2 ^ (2 * j)) lo) (le_of_eq (sym e))) in
    let hi' : N < 2 ^ (108 + 2 * j) = lt_of_le_of_lt (le_of_eq e) (lt_of_lt_of_le (mul-lt-mul_of_pos_right hi (pow_pos (2 * j))) (le_of_eq (sym (pow-add 2 108 (2 * j))))) in
    let is : (size N - 107) / 2 ≡ j = halves (size N) j (size-le N (108 + 2 * j) hi') (size_gt N (106 + 2 * j) lo') in
    ap (λ (i : ℕ). odd 53 false ((whole_root (N / 2 ^ (2 * i)) + 1) / 2) (i + 1) 1074) is
    ∙ ap (λ (x : ℕ). odd 53 false ((whole_root x + 1) / 2) (j + 1) 1074) (ap (λ (x : ℕ). x / 2 ^ (2 * j)) e ∙ mul-div_cancel p (pow_pos (2 * j)))

-- ---- the two together
-- N, from u * 2 ^ 52 ≡ m * 2 ^ e
regroup : (u m e k i : ℕ) → u * 2 ^ 52 ≡ m * 2 ^ e → e + 1022 ≡ k + 54 + i → u * 2 ^ 1074 ≡ m * 2 ^ k * 2 ^ 54 * 2 ^ i
regroup u m e k i v s =
    ap (λ (x : ℕ). u * x) (pow-add 2 52 1022)
    ∙ sym (mul_assoc u (2 ^ 52) (2 ^ 1022))
    ∙ ap (λ (x : ℕ). x * 2 ^ 1022) v
    ∙ mul_assoc m (2 ^ e) (2 ^ 1022)
    ∙ ap (λ (x : ℕ). m * x) (sym (pow-add 2 e 1022) ∙ ap (λ (x : ℕ). 2 ^ x) s ∙ pow-add 2 (k + 54) i ∙ ap (λ (x : ℕ). x * 2 ^ i) (pow-add 2 k 54))
    ∙ sym (mul_assoc m (2 ^ k * 2 ^ 54) (2 ^ i))
    ∙ ap (λ (x : ℕ). x * 2 ^ i) (sym (mul_assoc m (2 ^ k) (2 ^ 54)))

-- M is m or twice m, which is even: so q is at most 2 ^ 54 - 2
pub bounds : (M q : ℕ) → 2 ^ 52 ≤ M → M ≤ 2 ^ 54 - 2 → IsRoot (M * 2 ^ 54) q → (2 ^ 53 ≤ q) × (q < 2 ^ 54 - 1)
bounds M q lo hi r = (at_least (M * 2 ^ 54) (2 ^ 53) q (omega arith) r, less_than (M * 2 ^ 54) (2 ^ 54 - 1) q (omega arith) r)

module _ (u M h q : ℕ) (eq : u * 2 ^ 1074 ≡ M * 2 ^ 54 * 2 ^ (2 * (h + 484))) (lo : 2 ^ 52 ≤ M) (hi : M ≤ 2 ^ 54 - 2) (H : h ≤ 1048) (r : IsRoot (M * 2 ^ 54) q) where
  pub in_range : (h + 485) * 2 ^ 52 + (q + 1) / 2 < 0x7ff0_0000_0000_0000
  in_range =
      let b = bounds M q lo hi r in
      omega arith

  pub right : of_bits binary64 ((h + 485) * 2 ^ 52 + (q + 1) / 2) ≡ root_of_units u
  right =
      let b = bounds M q lo hi r in
      let s : h + 485 ≡ h + 484 + 1 = omega arith in
      written (h + 485) ((q + 1) / 2) (omega arith) (omega arith) (omega arith)
      ∙ ap (λ (x : ℕ). odd 53 false ((q + 1) / 2) x 1074) s
      ∙ ap (λ (x : ℕ). odd 53 false ((x + 1) / 2) (h + 484 + 1) 1074) (unique (M * 2 ^ 54) q (whole_root (M * 2 ^ 54)) r (whole_root_ok (M * 2 ^ 54)))
      ∙ sym (root_at u (M * 2 ^ 54) (h + 484) eq (omega arith) (omega arith))

-- m, or twice m where e is odd, and the root's pattern
module _ (b m e : ℕ) (p : Parted b m e) where
  shift : (i : ℕ) → i < 2 → (2 ^ 52 ≤ m * 2 ^ i) × (m * 2 ^ i ≤ 2 ^ 54 - 2)
  shift zero h = (omega (arith, p.low, mul-one m), omega (arith, p.high, mul-one m))
  shift (suc zero) h = (omega (arith, p.low), omega (arith, p.high))
  shift (suc (suc i)) h = absurd (not-le_of_lt h (omega arith))

  M-is : m * 2 ^ bit_and e 1 % 2 ^ 64 ≡ m * 2 ^ (e % 2)
  M-is = ap (λ (i : ℕ). m * 2 ^ i % 2 ^ 64) (and_mask e 1) ∙ mod-eq_of_lt (omega (arith, shift (e % 2) (omega arith)))

  pub asked : (2 ^ 52 ≤ m * 2 ^ bit_and e 1 % 2 ^ 64) × (m * 2 ^ bit_and e 1 % 2 ^ 64 < 2 ^ 54)
  asked = rw M-is ((shift (e % 2) (omega arith)).0, omega (arith, shift (e % 2) (omega arith)))

  pub found : (q : ℕ) → (q * q ≤ m * 2 ^ bit_and e 1 % 2 ^ 64 * 2 ^ 54) × (m * 2 ^ bit_and e 1 % 2 ^ 64 * 2 ^ 54 < (q + 1) * (q + 1)) × (q < 2 ^ 54)
      → (bit_or ((e / 2 + 486) * 2 ^ 52 % 2 ^ 64) (bit_and ((q + 1) / 2) (2 ^ 52 - 1)) < 0x7ff0_0000_0000_0000)
      × (of_bits binary64 (bit_or ((e / 2 + 486) * 2 ^ 52 % 2 ^ 64) (bit_and ((q + 1) / 2) (2 ^ 52 - 1))) ≡ root_of_units (units_of b))
  found q g =
      let s = p.small in
      let M = m * 2 ^ (e % 2) in
      let h = e / 2 in
      let k = shift (e % 2) (omega arith) in
      let r : IsRoot (M * 2 ^ 54) q = subst (λ (x : ℕ). IsRoot (x * 2 ^ 54) q) M-is (g.0, g.1) in
      let v : units_of b * 2 ^ 1074 ≡ M * 2 ^ 54 * 2 ^ (2 * (h + 484)) = regroup (units_of b) m e (e % 2) (2 * (h + 484)) p.value (omega arith) in
      let l = bounds M q k.0 k.1 r in
      let is : bit_or ((h + 486) * 2 ^ 52 % 2 ^ 64) (bit_and ((q + 1) / 2) (2 ^ 52 - 1)) ≡ (h + 485) * 2 ^ 52 + (q + 1) / 2 = rebuild 64 (h + 486) 52 ((q + 1) / 2) (omega arith) (omega arith) (omega arith) ∙ omega arith in
      rw is (in_range (units_of b) M h q v k.0 k.1 (omega arith) r, right (units_of b) M h q v k.0 k.1 (omega arith) r)

  pub found_half : (r : ℕ) → Halved (m * 2 ^ bit_and e 1 % 2 ^ 64) r
      → (bit_or ((e / 2 + 486) * 2 ^ 52 % 2 ^ 64) (bit_and r (2 ^ 52 - 1)) < 0x7ff0_0000_0000_0000)
      × (of_bits binary64 (bit_or ((e / 2 + 486) * 2 ^ 52 % 2 ^ 64) (bit_and r (2 ^ 52 - 1))) ≡ root_of_units (units_of b))
  found_half r g = rw g.half (found g.q (g.under, g.over, g.small))
