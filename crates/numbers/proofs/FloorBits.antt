-- `whole_bits` and `floor`, case by case. Assumes nothing.
use mathlib.Core.Path.{◌≡◌, refl, sym, ap, ◌∙◌, subst}
use Prim.Native.Nat.{ℕ, zero, suc, ◌+◌, ◌-◌, ◌*◌, ◌/◌, ◌%◌, ◌^◌, ◌≤◌, ◌<◌, zero-le}
use native.Mathlib.Nat.{le_trans, le_of_eq, le_of_lt, lt_of_lt_of_le, lt_of_le_of_lt, lt_of_not-le, mul-one, mul_assoc, mul_comm, mul_right_comm, add-mul}
use native.Mathlib.Nat.{add_comm, mul-le-mul_right, mul-lt-mul_of_pos_right, mod-eq_of_lt, mod-lt, div-add-mod', add-mul-div_right, eq_of_mul-eq-mul_right}
use native.Mathlib.Nat.{one-mul, eq-or-lt_of_le, not-suc-le-zero, pow-suc, div-mul-le_self, suc-mul, add_assoc}
use native.Mathlib.Decide.{dec_le}
use native.Mathlib.Omega.{arith}
use mathlib.Core.Logic.{◌⊎◌, inl, inr}
use mathlib.Core.Bool.{Bool, true, false, not}
use lib.Dec.{T, leb, ltb, eqb, lit≤, lit<}
use lib.Bits.{bit_and, bit_or, and_mask}
use lib.Pow.{pow-add, pow_pos, pow_mono, shl_lt, shr_lt, shl-shr, shr_mono}
use lib.Ieee.{Float, nan, inf, fin, binary64, up, down, fits, is_nan, ne, to_bits, of_bits, nan_bits}
use lib.Ieee.Exact.{HasValue}
use lib.Ieee.Bits.{of_bits-fits, to_bits-lt, nan_bits_above, nan_bits_is, is_false}
use borrow.Author.Tests.{le-leb, lt-leb, le-ltb, ltb-false, eq-eqb, ne_eqb}
use Rattle.numbers.specs.Floor.{floor_of, Within}
use Rattle.numbers.specs.Steps.{units_at, units_of, CutTo}
use Rattle.numbers.proofs.Shifts.{join}
use Rattle.numbers.proofs.FloorExact.{is_floor}
use Rattle.numbers.proofs.Patterns.{by_bits, is_nan_lem, no_nan, signed_value, units_pos}

-- sums with a number that `omega` does not take, 2 ^ 1074
more : (a b L : ℕ) → 0 < L → a ≤ b → a < b + L
more a b L l h = omega arith

both : (a b L : ℕ) → a < b → a + L < b + L
both a b L h = omega arith

exact : (s : Bool) (c u : ℕ) → u ≡ c * 2 ^ 1074 → Within s c u
exact false c u e = (le_of_eq (sym e), more u (c * 2 ^ 1074) (2 ^ 1074) (pow_pos 1074) (le_of_eq e))
exact true c u e = (le_of_eq e, more (c * 2 ^ 1074) u (2 ^ 1074) (pow_pos 1074) (le_of_eq (sym e)))

-- ---- below 1
below_one : (x t : ℕ) → x < 1023 → t < 2 ^ 52 → units_at x t < 2 ^ 1074
below_one zero t h l = lt_of_lt_of_le l (pow_mono {i = 52} {j = 1074} (lit≤ tt))
below_one (suc x) t h l =
    let e : 53 + x ≤ 1074 = omega arith in
    lt_of_lt_of_le (shl_lt {a = 2 ^ 52 + t} 53 x (omega arith)) (pow_mono e)

module _ (b : ℕ) (h : b < 0x3ff0_0000_0000_0000) where
  less : units_of b < 2 ^ 1074
  less = below_one (b / 2 ^ 52) (b % 2 ^ 52) (omega arith) (omega arith)

  pub to_one : (b ≡ 0 → ⊥) → CutTo true b 0x3ff0_0000_0000_0000
  to_one n =
      let p = units_pos (b / 2 ^ 52) (b % 2 ^ 52) (omega arith) in
      record { small = lit< tt; c = 1; whole = refl; within = (le_of_lt less, both 0 (units_of b) (2 ^ 1074) p) }

  pub to_zero : CutTo false b 0
  to_zero = record { small = lit< tt; c = 0; whole = refl; within = (zero-le, less) }

pub zero_kept : (s : Bool) (b : ℕ) → b ≡ 0 → CutTo s b 0
zero_kept s b e = subst (λ (x : ℕ). CutTo s x 0) (sym e) (record { small = lit< tt; c = 0; whole = refl; within = exact s 0 (units_of 0) refl })

-- ---- from 2 ^ 52 on
large : (x t : ℕ) → 1075 ≤ x → units_at x t ≡ (2 ^ 52 + t) * 2 ^ (x - 1075) * 2 ^ 1074
large zero t h = absurd (not-suc-le-zero h)
large (suc x) t h =
    let e : x ≡ suc x - 1075 + 1074 = omega arith in
    ap (λ (y : ℕ). (2 ^ 52 + t) * y) (ap (λ (y : ℕ). 2 ^ y) e ∙ pow-add 2 (suc x - 1075) 1074) ∙ sym (mul_assoc (2 ^ 52 + t) (2 ^ (suc x - 1075)) (2 ^ 1074))

-- ---- between: x is one less than the exponent's field, N the 53 digits, and k of them are the fraction
units_at_lem : (x R : ℕ) → 2 ^ 52 ≤ R → R ≤ 2 ^ 53 → units_of (x * 2 ^ 52 + R) ≡ R * 2 ^ x
units_at_lem x R lo hi = go (eq-or-lt_of_le hi)
  where
    go : (R ≡ 2 ^ 53) ⊎ (R < 2 ^ 53) → units_of (x * 2 ^ 52 + R) ≡ R * 2 ^ x
    go (inl e) =
        let f : (x * 2 ^ 52 + R) / 2 ^ 52 ≡ suc (suc x) = omega arith in
        let t : (x * 2 ^ 52 + R) % 2 ^ 52 ≡ 0 = omega arith in
        ap (λ (y : ℕ). units_at y ((x * 2 ^ 52 + R) % 2 ^ 52)) f
        ∙ ap (λ (y : ℕ). (2 ^ 52 + y) * 2 ^ suc x) t
        ∙ ap (λ (y : ℕ). 2 ^ 52 * y) (pow-suc 2 x ∙ mul_comm (2 ^ x) 2)
        ∙ sym (mul_assoc (2 ^ 52) 2 (2 ^ x))
        ∙ ap (λ (y : ℕ). y * 2 ^ x) (sym e)
    go (inr l) =
        let f : (x * 2 ^ 52 + R) / 2 ^ 52 ≡ suc x = omega arith in
        let t : (x * 2 ^ 52 + R) % 2 ^ 52 ≡ R - 2 ^ 52 = omega arith in
        let z : 2 ^ 52 + (R - 2 ^ 52) ≡ R = omega arith in
        ap (λ (y : ℕ). units_at y ((x * 2 ^ 52 + R) % 2 ^ 52)) f ∙ ap (λ (y : ℕ). (2 ^ 52 + y) * 2 ^ x) t ∙ ap (λ (y : ℕ). y * 2 ^ x) z

module _ (x k N : ℕ) (K : k + x ≡ 1074) (k≤ : k ≤ 52) (lo : 2 ^ 52 ≤ N) (hi : N < 2 ^ 53) where
  abbrev c : ℕ
  c = N / 2 ^ k

  L-is : 2 ^ k * 2 ^ x ≡ 2 ^ 1074
  L-is = sym (pow-add 2 k x) ∙ ap (λ (y : ℕ). 2 ^ y) K

  top : 2 ^ (52 - k) * 2 ^ k ≡ 2 ^ 52
  top =
      let e : 52 - k + k ≡ 52 = omega arith in
      sym (pow-add 2 (52 - k) k) ∙ ap (λ (y : ℕ). 2 ^ y) e

  cut_is : (x * 2 ^ 52 + N) / 2 ^ k * 2 ^ k ≡ x * 2 ^ 52 + c * 2 ^ k
  cut_is =
      ap (λ (y : ℕ). y / 2 ^ k * 2 ^ k) (add_comm (x * 2 ^ 52) N ∙ ap (λ (y : ℕ). N + y) (ap (λ (y : ℕ). x * y) (sym top) ∙ sym (mul_assoc x (2 ^ (52 - k)) (2 ^ k))))
      ∙ ap (λ (y : ℕ). y * 2 ^ k) (add-mul-div_right N (x * 2 ^ (52 - k)) (pow_pos k))
      ∙ add-mul (N / 2 ^ k) (x * 2 ^ (52 - k)) (2 ^ k)
      ∙ add_comm (c * 2 ^ k) (x * 2 ^ (52 - k) * 2 ^ k)
      ∙ ap (λ (y : ℕ). y + c * 2 ^ k) (mul_assoc x (2 ^ (52 - k)) (2 ^ k) ∙ ap (λ (y : ℕ). x * y) top)

  low_c : 2 ^ 52 ≤ c * 2 ^ k
  low_c = le_trans (le_of_eq (sym top)) (mul-le-mul_right (2 ^ k) (le_trans (le_of_eq (sym (shl-shr (2 ^ (52 - k)) k))) (shr_mono k (le_trans (le_of_eq top) lo))))

  c_le : c * 2 ^ k ≤ N
  c_le = div-mul-le_self N (2 ^ k)

  N-lt : N < c * 2 ^ k + 2 ^ k
  N-lt = go (c * 2 ^ k) (N % 2 ^ k) (2 ^ k) (div-add-mod' N (2 ^ k)) (mod-lt N (pow_pos k))
    where
      go : (q r p : ℕ) → q + r ≡ N → r < p → N < q + p
      go q r p e l = omega arith

  high_c : c * 2 ^ k + 2 ^ k ≤ 2 ^ 53
  high_c =
      let e : 53 - k + k ≡ 53 = omega arith in
      le_trans (le_of_eq (sym (suc-mul c (2 ^ k))))
      (le_trans (mul-le-mul_right (2 ^ k) (shr_lt (53 - k) k (subst (λ (y : ℕ). N < 2 ^ y) (sym e) hi)))
      (le_of_eq (sym (pow-add 2 (53 - k) k) ∙ ap (λ (y : ℕ). 2 ^ y) e)))

  scaled : c * 2 ^ k * 2 ^ x ≡ c * 2 ^ 1074
  scaled = mul_assoc c (2 ^ k) (2 ^ x) ∙ ap (λ (y : ℕ). c * y) L-is

  scaled_up : (c * 2 ^ k + 2 ^ k) * 2 ^ x ≡ c * 2 ^ 1074 + 2 ^ 1074
  scaled_up = add-mul (c * 2 ^ k) (2 ^ k) (2 ^ x) ∙ ap (λ (y : ℕ). y + 2 ^ k * 2 ^ x) scaled ∙ ap (λ (y : ℕ). c * 2 ^ 1074 + y) L-is

  abbrev b : ℕ
  b = x * 2 ^ 52 + N

  abbrev r : ℕ
  r = b / 2 ^ k * 2 ^ k % 2 ^ 64

  b_units : units_of b ≡ N * 2 ^ x
  b_units = units_at_lem x N lo (le_of_lt hi)

  r_is : r ≡ x * 2 ^ 52 + c * 2 ^ k
  r_is = ap (λ (y : ℕ). y % 2 ^ 64) cut_is ∙ mod-eq_of_lt (omega (arith, c_le))

  r_small : x * 2 ^ 52 + c * 2 ^ k < 0x7ff0_0000_0000_0000
  r_small = omega (arith, c_le)

  r_units : units_of (x * 2 ^ 52 + c * 2 ^ k) ≡ c * 2 ^ 1074
  r_units = units_at_lem x (c * 2 ^ k) low_c (le_trans c_le (le_of_lt hi)) ∙ scaled

  toward_at : CutTo false b r
  toward_at = rw r_is (record {
    small = r_small;
    c = c;
    whole = r_units;
    within = rw b_units (
      le_trans (le_of_eq (sym scaled)) (mul-le-mul_right (2 ^ x) c_le),
      lt_of_lt_of_le (mul-lt-mul_of_pos_right N-lt (pow_pos x)) (le_of_eq scaled_up),
    );
  })

  same_at : b ≤ r → CutTo true b r
  same_at h =
      let l = c_le in
      let e : N ≡ c * 2 ^ k = omega (arith, r_is) in
      rw r_is (record { small = r_small; c = c; whole = r_units; within = exact true c (units_of b) (b_units ∙ ap (λ (y : ℕ). y * 2 ^ x) e ∙ scaled) })

  one : 1 * 2 ^ k % 2 ^ 64 ≡ 2 ^ k
  one = ap (λ (y : ℕ). y % 2 ^ 64) (one-mul (2 ^ k)) ∙ mod-eq_of_lt (lt_of_le_of_lt (pow_mono k≤) (lit< tt))

  pub room_at : r + 1 * 2 ^ k % 2 ^ 64 < 0x7ff0_0000_0000_0000
  room_at = rw (r_is, one) (omega (arith, high_c))

  away_at : r < b → CutTo true b (r + 1 * 2 ^ k % 2 ^ 64)
  away_at h =
      let e : x * 2 ^ 52 + c * 2 ^ k + 2 ^ k ≡ x * 2 ^ 52 + (c * 2 ^ k + 2 ^ k) = add_assoc (x * 2 ^ 52) (c * 2 ^ k) (2 ^ k) in
      let l : c * 2 ^ k < N = omega (arith, r_is) in
      let f : (c + 1) * 2 ^ 1074 ≡ c * 2 ^ 1074 + 2 ^ 1074 = add-mul c 1 (2 ^ 1074) in
      record {
        small = room_at;
        c = c + 1;
        whole = rw (r_is, one, e) (units_at_lem x (c * 2 ^ k + 2 ^ k) (le_trans low_c (native.Mathlib.Nat.le-add_right (c * 2 ^ k) (2 ^ k))) high_c ∙ scaled_up ∙ sym f);
        within = rw (b_units, f) (
          le_trans (mul-le-mul_right (2 ^ x) (le_of_lt N-lt)) (le_of_eq scaled_up),
          both (c * 2 ^ 1074) (N * 2 ^ x) (2 ^ 1074) (lt_of_le_of_lt (le_of_eq (sym scaled)) (mul-lt-mul_of_pos_right l (pow_pos x))),
        );
      }

-- as the code has it
abbrev places : ℕ → ℕ
places b = 1075 - b / 2 ^ 52

abbrev cleared : ℕ → ℕ
cleared b = b / 2 ^ places b * 2 ^ places b % 2 ^ 64

module _ (b : ℕ) (hi : b < 0x4330_0000_0000_0000) (lo : 0x3ff0_0000_0000_0000 ≤ b) where
  abbrev x : ℕ
  x = b / 2 ^ 52 - 1

  abbrev N : ℕ
  N = b - x * 2 ^ 52

  is : x * 2 ^ 52 + N ≡ b
  is = omega arith

  sum : places b + x ≡ 1074
  sum = omega arith

  few : places b ≤ 52
  few = omega arith

  N-low : 2 ^ 52 ≤ N
  N-low = omega arith

  N-high : N < 2 ^ 53
  N-high = omega arith

  pub toward : CutTo false b (cleared b)
  toward = subst (λ (y : ℕ). CutTo false y (y / 2 ^ places b * 2 ^ places b % 2 ^ 64)) is (toward_at x (places b) N sum few N-low N-high)

  pub same : b ≤ cleared b → CutTo true b (cleared b)
  same = subst (λ (y : ℕ). y ≤ y / 2 ^ places b * 2 ^ places b % 2 ^ 64 → CutTo true y (y / 2 ^ places b * 2 ^ places b % 2 ^ 64)) is (same_at x (places b) N sum few N-low N-high)

  pub room : cleared b + 1 * 2 ^ places b % 2 ^ 64 < 0x7ff0_0000_0000_0000
  room = subst (λ (y : ℕ). y / 2 ^ places b * 2 ^ places b % 2 ^ 64 + 1 * 2 ^ places b % 2 ^ 64 < 0x7ff0_0000_0000_0000) is (room_at x (places b) N sum few N-low N-high)

  pub away : cleared b < b → CutTo true b (cleared b + 1 * 2 ^ places b % 2 ^ 64)
  away = subst (λ (y : ℕ). y / 2 ^ places b * 2 ^ places b % 2 ^ 64 < y → CutTo true y (y / 2 ^ places b * 2 ^ places b % 2 ^ 64 + 1 * 2 ^ places b % 2 ^ 64)) is (away_at x (places b) N sum few N-low N-high)

-- ---- `floor`
in_whole : (v : Float) (s : Bool) (c : ℕ) → HasValue v s (c * 2 ^ 1074) (2 ^ 1074) → HasValue v s c 1
in_whole nan s c h = h
in_whole (inf t) s c h = h
in_whole (fin t m e) s c h = (h.0, mul-one (m * up e) ∙ eq_of_mul-eq-mul_right (2 ^ 1074) (pow_pos 1074) (m * up e) (c * down e) (h.1 ∙ mul_right_comm c (2 ^ 1074) (down e)))

sign_is : (b : ℕ) → b < 2 ^ 64 → eqb (b / 2 ^ 63) 1 ≡ leb (2 ^ 63) b
sign_is b w = go (dec_le (2 ^ 63) b)
  where
    go : Dec (2 ^ 63 ≤ b) → eqb (b / 2 ^ 63) 1 ≡ leb (2 ^ 63) b
    go (yes l) = eq-eqb (b / 2 ^ 63) 1 (omega arith) ∙ sym (le-leb (2 ^ 63) b l)
    go (no l) =
        let k : b < 2 ^ 63 = lt_of_not-le l in
        ne_eqb (b / 2 ^ 63) 1 (λ e. omega arith) ∙ sym (lt-leb (2 ^ 63) b k)

-- the sign's bit of b and the pattern r
module _ (b r : ℕ) (w : b < 2 ^ 64) (h : r < 0x7ff0_0000_0000_0000) where
  abbrev signed : ℕ
  signed = bit_or (b / 2 ^ 63 * 2 ^ 63 % 2 ^ 64) r

  signed_is : signed ≡ b / 2 ^ 63 * 2 ^ 63 + r
  signed_is = join 64 (b / 2 ^ 63) 63 r (omega arith) (omega arith)

  size_is : signed % 2 ^ 63 ≡ r
  size_is = rw signed_is (omega arith)

  same_sign : leb (2 ^ 63) signed ≡ leb (2 ^ 63) b
  same_sign = sym (sign_is signed (omega (arith, signed_is))) ∙ ap (λ (y : ℕ). eqb y 1) quotient ∙ sign_is b w
    where
      quotient : signed / 2 ^ 63 ≡ b / 2 ^ 63
      quotient = rw signed_is (omega arith)

  pub signed_no_nan : T (not (nan_bits binary64 signed))
  signed_no_nan = subst (λ (t : Bool). T (not t)) (sym (nan_bits_above binary64 signed ∙ ap (λ (y : ℕ). ltb (2047 * 2 ^ 52) y) size_is ∙ le-ltb (2047 * 2 ^ 52) r (le_of_lt h))) tt

  signed_whole : (c : ℕ) → units_of r ≡ c * 2 ^ 1074 → HasValue (of_bits binary64 signed) (leb (2 ^ 63) b) c 1
  signed_whole c e = in_whole (of_bits binary64 signed) (leb (2 ^ 63) b) c (rw (same_sign, size_is, e) at (signed_value signed (rw size_is h)))

pub floored : (x : Float) (r : ℕ) → T (fits binary64 x) → bit_and (to_bits binary64 x) (2 ^ 63 - 1) < 0x4330_0000_0000_0000
    → CutTo (eqb (to_bits binary64 x / 2 ^ 63) 1) (bit_and (to_bits binary64 x) (2 ^ 63 - 1)) r → of_bits binary64 (bit_or (to_bits binary64 x / 2 ^ 63 * 2 ^ 63 % 2 ^ 64) r) ≡ floor_of x
floored x r f l k =
    let b = to_bits binary64 x in
    let w = to_bits-lt binary64 x f in
    let m : bit_and b (2 ^ 63 - 1) ≡ b % 2 ^ 63 = and_mask b 63 in
    let v : HasValue x (leb (2 ^ 63) b) (units_of (b % 2 ^ 63)) (2 ^ 1074) = subst (λ (y : Float). HasValue y (leb (2 ^ 63) b) (units_of (b % 2 ^ 63)) (2 ^ 1074)) (by_bits x b f refl) (signed_value b (omega (arith, rw m at l))) in
    is_floor x (of_bits binary64 (bit_or (b / 2 ^ 63 * 2 ^ 63 % 2 ^ 64) r)) (leb (2 ^ 63) b) (units_of (b % 2 ^ 63)) k.c f (of_bits-fits binary64 (bit_or (b / 2 ^ 63 * 2 ^ 63 % 2 ^ 64) r)) v
    (signed_whole b r w k.small k.c k.whole)
    (rw (sign_is b w, m) at k.within)

pub nan_kept : (x : Float) → ne x x ≡ true → x ≡ floor_of x
unfolding floor_of
nan_kept x e = subst (λ (y : Float). y ≡ floor_of y) (sym (is_nan_lem x e)) refl

inf_kept : (x : Float) → T (fits binary64 x) → ne x x ≡ false → 0x7ff0_0000_0000_0000 ≤ to_bits binary64 x % 2 ^ 63 → x ≡ floor_of x
unfolding floor_of of_bits
inf_kept x f e l =
    let b = to_bits binary64 x in
    let n : T (not (nan_bits binary64 b)) = subst (λ (t : Bool). T (not t)) (sym (nan_bits_is binary64 b ∙ ap is_nan (by_bits x b f refl))) (no_nan x e) in
    let u : b % 2 ^ 63 ≤ 0x7ff0_0000_0000_0000 = ltb-false (2047 * 2 ^ 52) (b % 2 ^ 63) (sym (nan_bits_above binary64 b) ∙ is_false (nan_bits binary64 b) n) in
    go (dec_le (2 ^ 63) b) (to_bits-lt binary64 x f) u l
  where
    go : Dec (2 ^ 63 ≤ to_bits binary64 x) → to_bits binary64 x < 2 ^ 64 → to_bits binary64 x % 2 ^ 63 ≤ 0x7ff0_0000_0000_0000 → 0x7ff0_0000_0000_0000 ≤ to_bits binary64 x % 2 ^ 63 → x ≡ floor_of x
    go (yes s) w u l = subst (λ (y : Float). y ≡ floor_of y) (by_bits x 0xfff0_0000_0000_0000 f (omega arith)) refl
    go (no s) w u l =
        let k = lt_of_not-le s in
        subst (λ (y : Float). y ≡ floor_of y) (by_bits x 0x7ff0_0000_0000_0000 f (omega arith)) refl

finite_kept : (x : Float) → T (fits binary64 x) → 0x4330_0000_0000_0000 ≤ to_bits binary64 x % 2 ^ 63 → to_bits binary64 x % 2 ^ 63 < 0x7ff0_0000_0000_0000 → x ≡ floor_of x
finite_kept x f l h =
    let b = to_bits binary64 x in
    let s = leb (2 ^ 63) b in
    let t = b % 2 ^ 63 % 2 ^ 52 in
    let c = (2 ^ 52 + t) * 2 ^ (b % 2 ^ 63 / 2 ^ 52 - 1075) in
    let e : units_of (b % 2 ^ 63) ≡ c * 2 ^ 1074 = large (b % 2 ^ 63 / 2 ^ 52) t (omega arith) in
    let v : HasValue x s (units_of (b % 2 ^ 63)) (2 ^ 1074) = subst (λ (y : Float). HasValue y s (units_of (b % 2 ^ 63)) (2 ^ 1074)) (by_bits x b f refl) (signed_value b h) in
    is_floor x x s (units_of (b % 2 ^ 63)) c f f v (in_whole x s c (subst (λ (u : ℕ). HasValue x s u (2 ^ 1074)) e v)) (exact s c (units_of (b % 2 ^ 63)) e)

pub large_kept : (x : Float) → T (fits binary64 x) → ne x x ≡ false → 0x4330_0000_0000_0000 ≤ bit_and (to_bits binary64 x) (2 ^ 63 - 1) → x ≡ floor_of x
large_kept x f e l = go (dec_le 0x7ff0_0000_0000_0000 (to_bits binary64 x % 2 ^ 63))
  where
    go : Dec (0x7ff0_0000_0000_0000 ≤ to_bits binary64 x % 2 ^ 63) → x ≡ floor_of x
    go (yes h) = inf_kept x f e h
    go (no h) = finite_kept x f (rw (and_mask (to_bits binary64 x) 63) at l) (lt_of_not-le h)
