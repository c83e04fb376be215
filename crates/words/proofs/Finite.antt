-- Which bits are a finite number's, and no NaN's. Assumes nothing.
use mathlib.Core.Path.{◌≡◌, refl, sym, ap, ◌∙◌, subst}
use Prim.Native.Nat.{ℕ, zero, suc, ◌+◌, ◌*◌, ◌/◌, ◌%◌, ◌^◌}
use native.Mathlib.Omega.{arith}
use mathlib.Core.Bool.{Bool, true, false, not, cond, true≢false}
use lib.Dec.{T, ltb, eqb}
use lib.Ieee.{Float, nan, inf, fin, binary64, odd, is_nan, of_fields, of_bits, nan_bits}
use lib.Ieee.Bits.{nan_bits_is}
use borrow.Author.Tests.{lt-ltb, le-ltb, eq-eqb, ne_eqb}
use Rattle.numbers.specs.Finite.{finite}
use Rattle.lists.proofs.Tests.{below_or_not}

odd_finite : (d : ℕ) (s : Bool) (q k l : ℕ) → finite (odd d s q k l) ≡ true
unfolding odd
odd_finite d s zero k l = refl
odd_finite d s (suc q) k l = refl

never : (b s : Bool) → finite (cond b (inf s) nan) ≡ false
never true s = refl
never false s = refl

-- an exponent of which not every digit is one
fields_finite : (s : Bool) (x t : ℕ) → finite (of_fields binary64 s x t) ≡ not (eqb x 2047)
unfolding of_fields
fields_finite s zero t = odd_finite 53 s t 0 1074
fields_finite s (suc x) t = go (eqb (suc x) 2047)
  where
    go : (b : Bool) → finite (cond b (cond (eqb t 0) (inf s) nan) (odd 53 s (2 ^ 52 + t) x 1074)) ≡ not b
    go true = never (eqb t 0) s
    go false = odd_finite 53 s (2 ^ 52 + t) x 1074

pub finite_bits : (b : ℕ) → ltb (b % 0x8000_0000_0000_0000) 0x7ff0_0000_0000_0000 ≡ finite (of_bits binary64 b)
unfolding of_bits
finite_bits b =
    below_or_not (b % 2 ^ 63) (2047 * 2 ^ 52)
    (λ l. lt-ltb (b % 2 ^ 63) (2047 * 2 ^ 52) l ∙ sym (fields_finite _ (b % 2 ^ 63 / 2 ^ 52) _ ∙ ap not (ne_eqb (b % 2 ^ 63 / 2 ^ 52) 2047 (λ e. omega arith))))
    (λ l. le-ltb (b % 2 ^ 63) (2047 * 2 ^ 52) l ∙ sym (fields_finite _ (b % 2 ^ 63 / 2 ^ 52) _ ∙ ap not (eq-eqb (b % 2 ^ 63 / 2 ^ 52) 2047 (omega arith))))

-- what is finite is no NaN, by the value and by the bits
pub finite_known : (x : Float) → finite x ≡ true → T (not (is_nan x))
unfolding is_nan
finite_known nan e = true≢false (sym e)
finite_known (inf s) e = tt
finite_known (fin s m e) h = tt

pub finite_no_nan : (b : ℕ) → finite (of_bits binary64 b) ≡ true → T (not (nan_bits binary64 b))
finite_no_nan b e = subst (λ (t : Bool). T (not t)) (sym (nan_bits_is binary64 b)) (finite_known (of_bits binary64 b) e)
