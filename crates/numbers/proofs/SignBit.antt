-- A pattern without its sign stands for the magnitude. Assumes nothing.
use mathlib.Core.Path.{◌≡◌, refl, sym, ap, ◌∙◌, subst}
use Prim.Native.Nat.{ℕ, zero, suc, ◌+◌, ◌*◌, ◌/◌, ◌%◌, ◌^◌, ◌-◌}
use native.Mathlib.Omega.{arith}
use mathlib.Core.Bool.{Bool, true, false, not, cond}
use lib.IntN.{ℤ}
use lib.Dec.{T, leb, ltb, eqb}
use lib.Bits.{bit_and, and_mask}
use lib.Ieee.{Float, nan, inf, fin, binary64, odd, fits, is_nan, ne, to_bits, of_bits, of_fields, nan_bits}
use lib.Ieee.Bits.{nan_bits_above, nan_bits_is, of_bits-fits, to_bits-of_bits}
use borrow.Author.Tests.{lt-leb}
use Rattle.numbers.specs.Magnitude.{magnitude_of}
use Rattle.numbers.proofs.Patterns.{by_bits, is_nan_lem, no_nan, three}

pub odd_magnitude : (d : ℕ) (s : Bool) (q k l : ℕ) → odd d false q k l ≡ magnitude_of (odd d s q k l)
unfolding magnitude_of odd
odd_magnitude d s zero k l = refl
odd_magnitude d s (suc q) k l = refl

either : (a b s : Bool) (v w : Float) → v ≡ magnitude_of w → cond a (cond b (inf false) nan) v ≡ magnitude_of (cond a (cond b (inf s) nan) w)
unfolding magnitude_of
either true true s v w h = refl
either true false s v w h = refl
either false b s v w h = h

fields_magnitude : (s : Bool) (x t : ℕ) → of_fields binary64 false x t ≡ magnitude_of (of_fields binary64 s x t)
unfolding of_fields
fields_magnitude s zero t = odd_magnitude 53 s t 0 1074
fields_magnitude s (suc x) t = either (eqb (suc x) 2047) (eqb t 0) s (odd 53 false (2 ^ 52 + t) x 1074) (odd 53 s (2 ^ 52 + t) x 1074) (odd_magnitude 53 s (2 ^ 52 + t) x 1074)

bits_magnitude : (b : ℕ) → of_bits binary64 (b % 2 ^ 63) ≡ magnitude_of (of_bits binary64 b)
unfolding of_bits
bits_magnitude b =
    let s : leb (2 ^ 63) (b % 2 ^ 63) ≡ false = lt-leb (2 ^ 63) (b % 2 ^ 63) (omega arith) in
    let f : b % 2 ^ 63 % 2 ^ 63 / 2 ^ 52 ≡ b % 2 ^ 63 / 2 ^ 52 = omega arith in
    let t : b % 2 ^ 63 % 2 ^ 52 ≡ b % 2 ^ 52 = omega arith in
    three s f t ∙ fields_magnitude (leb (2 ^ 63) b) (b % 2 ^ 63 / 2 ^ 52) (b % 2 ^ 52)

pub of_nan : (x : Float) → ne x x ≡ true → x ≡ magnitude_of x
unfolding magnitude_of
of_nan x e = subst (λ (y : Float). y ≡ magnitude_of y) (sym (is_nan_lem x e)) refl

pub of_bits_lem : (x : Float) → T (fits binary64 x) → of_bits binary64 (bit_and (to_bits binary64 x) (2 ^ 63 - 1)) ≡ magnitude_of x
of_bits_lem x h = ap (of_bits binary64) (and_mask (to_bits binary64 x) 63) ∙ bits_magnitude (to_bits binary64 x) ∙ ap magnitude_of (by_bits x (to_bits binary64 x) h refl)

pub no_nan_pattern : (x : Float) → T (fits binary64 x) → ne x x ≡ false → T (not (nan_bits binary64 (bit_and (to_bits binary64 x) (2 ^ 63 - 1))))
no_nan_pattern x h e =
    let b = to_bits binary64 x in
    let m : b % 2 ^ 63 % 2 ^ 63 ≡ b % 2 ^ 63 = omega arith in
    subst (λ (t : Bool). T (not t))
    (sym (ap (nan_bits binary64) (and_mask b 63)
    ∙ nan_bits_above binary64 (b % 2 ^ 63)
    ∙ ap (λ (y : ℕ). ltb (2047 * 2 ^ 52) y) m
    ∙ sym (nan_bits_above binary64 b)
    ∙ nan_bits_is binary64 b
    ∙ ap is_nan (by_bits x b h refl)))
    (no_nan x e)

-- ---- the theorem
pub cleared : (s : Bool) (m : ℕ) (e : ℤ) → T (fits binary64 (fin s m e)) → T (fits binary64 (fin false m e)) × (to_bits binary64 (fin false m e) ≡ to_bits binary64 (fin s m e) % 2 ^ 63)
unfolding magnitude_of is_nan
cleared s m e h =
    let b = to_bits binary64 (fin s m e) in
    let i : of_bits binary64 (b % 2 ^ 63) ≡ fin false m e = bits_magnitude b ∙ ap magnitude_of (by_bits (fin s m e) b h refl) in (
      subst (λ (v : Float). T (fits binary64 v)) i (of_bits-fits binary64 (b % 2 ^ 63)),
      ap (to_bits binary64) (sym i) ∙ to_bits-of_bits binary64 (b % 2 ^ 63) (omega arith) (subst (λ (v : Float). T (not (is_nan v))) (sym i) tt),
    )
