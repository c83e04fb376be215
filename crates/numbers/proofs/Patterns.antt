-- What a bit pattern stands for. Assumes nothing.
use mathlib.Core.Path.{◌≡◌, sym, ap, ◌∙◌, subst}
use Prim.Native.Nat.{ℕ, zero, suc, ◌+◌, ◌-◌, ◌*◌, ◌/◌, ◌%◌, ◌^◌, ◌≤◌, ◌<◌}
use native.Mathlib.Nat.{mul-one, mul-pos, le_of_suc-le-suc}
use native.Mathlib.Omega.{arith}
use mathlib.Core.Bool.{Bool, true, false, not, cond, true≢false}
use lib.Dec.{T, leb, eqb}
use lib.Arith.{lt→nleb}
use lib.Pow.{pow_pos}
use lib.Ieee.{Float, nan, inf, fin, binary64, odd, fits, is_nan, ne, to_bits, of_bits, of_fields, nan_bits}
use lib.Ieee.Exact.{HasValue, odd_sign}
use lib.Ieee.Compare.{differs_from_itself}
use lib.Ieee.Bits.{of_bits-to_bits, nan_bits_above, is_false}
use borrow.Author.Tests.{ne_eqb, le-ltb, lt-leb}
use Rattle.numbers.specs.Steps.{units_at, units_of}

-- ---- a NaN, by the test `x != x` and by the pattern
pub is_nan_lem : (x : Float) → ne x x ≡ true → x ≡ nan
is_nan_lem x e = differs_from_itself x (subst T (sym e) tt)

pub no_nan : (x : Float) → ne x x ≡ false → T (not (is_nan x))
unfolding ne is_nan
no_nan nan e = absurd (true≢false e)
no_nan (inf s) e = tt
no_nan (fin s m e) e' = tt

pub no_nan_bits : (b : ℕ) → b < 0x7ff0_0000_0000_0000 → T (not (nan_bits binary64 b))
no_nan_bits b h = subst (λ (t : Bool). T (not t)) (sym (nan_bits_above binary64 b ∙ le-ltb (2047 * 2 ^ 52) (b % 2 ^ 63) (omega arith))) tt

-- ---- a value by its pattern
pub by_bits : (x : Float) (b : ℕ) → T (fits binary64 x) → to_bits binary64 x ≡ b → of_bits binary64 b ≡ x
by_bits x b h e = ap (of_bits binary64) (sym e) ∙ of_bits-to_bits binary64 x h

pub three : {s s' : Bool} {x x' t t' : ℕ} → s ≡ s' → x ≡ x' → t ≡ t' → of_fields binary64 s x t ≡ of_fields binary64 s' x' t'
three {s} {s'} {x} {x'} {t} {t'} p q r = ap (λ (a : Bool). of_fields binary64 a x t) p ∙ ap (λ (a : ℕ). of_fields binary64 s' a t) q ∙ ap (λ (a : ℕ). of_fields binary64 s' x' a) r

pub field_at : (s : Bool) (x t : ℕ) → x < 2046 → of_fields binary64 s (suc x) t ≡ odd 53 s (2 ^ 52 + t) x 1074
unfolding of_fields
field_at s x t h = ap (λ (b : Bool). cond b (cond (eqb t 0) (inf s) nan) (odd 53 s (2 ^ 52 + t) x 1074)) (ne_eqb (suc x) 2047 (λ e. omega arith))

-- the exponent's field one up, for the leading one of 53 digits
pub written : (x r : ℕ) → x < 2046 → 2 ^ 52 ≤ r → r < 2 ^ 53 → of_bits binary64 (x * 2 ^ 52 + r) ≡ odd 53 false r x 1074
unfolding of_bits
written x r h lo hi =
    let b = x * 2 ^ 52 + r in
    let s : leb (2 ^ 63) b ≡ false = is_false (leb (2 ^ 63) b) (lt→nleb (2 ^ 63) b (omega arith)) in
    let f : b % 2 ^ 63 / 2 ^ 52 ≡ suc x = omega arith in
    let t : b % 2 ^ 52 ≡ r - 2 ^ 52 = omega arith in
    let z : 2 ^ 52 + (r - 2 ^ 52) ≡ r = omega arith in
    three s f t ∙ field_at false x (r - 2 ^ 52) h ∙ ap (λ (y : ℕ). odd 53 false y x 1074) z

-- ---- a pattern in units
pub units_pos : (x t : ℕ) → 0 < x + t → 0 < units_at x t
units_pos zero t h = omega arith
units_pos (suc x) t h = mul-pos (omega arith) (pow_pos x)

fields_value : (s : Bool) (x t : ℕ) → x < 2047 → HasValue (of_fields binary64 s x t) s (units_at x t) (2 ^ 1074)
unfolding of_fields
fields_value s zero t h = subst (λ (n : ℕ). HasValue (odd 53 s t 0 1074) s n (2 ^ 1074)) (mul-one t) (odd_sign 53 s t 0 1074)
fields_value s (suc x) t h = subst (λ (v : Float). HasValue v s ((2 ^ 52 + t) * 2 ^ x) (2 ^ 1074)) (sym (field_at s x t (le_of_suc-le-suc h))) (odd_sign 53 s (2 ^ 52 + t) x 1074)

-- the value of a pattern, with its sign
pub signed_value : (b : ℕ) → b % 2 ^ 63 < 0x7ff0_0000_0000_0000 → HasValue (of_bits binary64 b) (leb (2 ^ 63) b) (units_of (b % 2 ^ 63)) (2 ^ 1074)
unfolding of_bits
signed_value b h =
    let t : b % 2 ^ 52 ≡ b % 2 ^ 63 % 2 ^ 52 = omega arith in
    subst (λ (v : Float). HasValue v (leb (2 ^ 63) b) (units_of (b % 2 ^ 63)) (2 ^ 1074))
    (sym (ap (λ (y : ℕ). of_fields binary64 (leb (2 ^ 63) b) (b % 2 ^ 63 / 2 ^ 52) y) t))
    (fields_value (leb (2 ^ 63) b) (b % 2 ^ 63 / 2 ^ 52) (b % 2 ^ 63 % 2 ^ 52) (omega arith))

pub bits_value : (b : ℕ) → b < 0x7ff0_0000_0000_0000 → HasValue (of_bits binary64 b) false (units_of b) (2 ^ 1074)
bits_value b h =
    let s : leb (2 ^ 63) b ≡ false = lt-leb (2 ^ 63) b (omega arith) in
    let e : b % 2 ^ 63 ≡ b = omega arith in
    rw (s, e) at (signed_value b (omega arith))
