-- `root`, case by case: what the tests on a value and on its pattern tell of `root_of`. Assumes nothing.
use mathlib.Core.Path.{◌≡◌, refl, sym, ap, ◌∙◌, subst}
use Prim.Native.Nat.{ℕ, zero, suc, ◌+◌, ◌*◌, ◌/◌, ◌%◌, ◌^◌, ◌≤◌, ◌<◌}
use native.Mathlib.Nat.{lt_irrefl, lt_of_not-le, zero-mul, mul-pos, mul-div_cancel}
use native.Mathlib.Decide.{dec_le}
use native.Mathlib.Omega.{arith}
use mathlib.Core.Bool.{Bool, true, false, cond, true≢false}
use lib.Dec.{T, leb, eqb}
use lib.Ieee.{Float, nan, inf, fin, binary64, up, down, odd, fits, ne, div, to_bits, of_bits, of_fields}
use lib.Ieee.Fits.{down_pos}
use lib.Ieee.Exact.{HasValue, odd_sign}
use lib.Ieee.Bits.{to_bits-lt}
use borrow.Author.Tests.{ne_eqb, le-leb, lt-leb}
use Rattle.numbers.specs.Root.{root_of_units, root_of}
use Rattle.numbers.specs.Steps.{units_of}
use Rattle.numbers.proofs.Patterns.{bits_value, by_bits, is_nan_lem, three, units_pos}

pub nan_root : (x : Float) → ne x x ≡ true → x ≡ root_of x
unfolding root_of
nan_root x e = subst (λ (y : Float). y ≡ root_of y) (sym (is_nan_lem x e)) refl

-- a value that is its own root
kept : (x : Float) (b : ℕ) → T (fits binary64 x) → to_bits binary64 x ≡ b → of_bits binary64 b ≡ root_of (of_bits binary64 b) → x ≡ root_of x
kept x b h e k = subst (λ (y : Float). y ≡ root_of y) (by_bits x b h e) k

pub zero_root : (x : Float) → T (fits binary64 x) → to_bits binary64 x ≡ 0 → x ≡ root_of x
unfolding root_of of_bits
zero_root x h e = kept x 0 h e refl

pub inf_root : (x : Float) → T (fits binary64 x) → to_bits binary64 x ≡ 0x7ff0_0000_0000_0000 → x ≡ root_of x
unfolding root_of of_bits
inf_root x h e = kept x 0x7ff0_0000_0000_0000 h e refl

pub negative_zero_root : (x : Float) → T (fits binary64 x) → to_bits binary64 x ≡ 0x8000_0000_0000_0000 → x ≡ root_of x
unfolding root_of of_bits
negative_zero_root x h e = kept x 0x8000_0000_0000_0000 h e refl

-- ---- above zero
no_zero : (a d : ℕ) → 0 < a → 0 < d → (z : ℕ) → z ≡ a * d → z ≡ 0 → ⊥
no_zero a d A D z e f = lt_irrefl 0 (subst (λ (x : ℕ). 0 < x) (sym e ∙ f) (mul-pos A D))

pub of_value : (x : Float) (a : ℕ) → 0 < a → HasValue x false a (2 ^ 1074) → root_of x ≡ root_of_units a
unfolding root_of
of_value nan a A h = absurd h
of_value (inf s) a A h = absurd h
of_value (fin true zero e) a A h = absurd (true≢false h.0)
of_value (fin true (suc m) e) a A h = absurd (true≢false h.0)
of_value (fin false zero e) a A h = absurd (no_zero a (down e) A (down_pos e) (0 * up e * 2 ^ 1074) h.1 (ap (λ (x : ℕ). x * 2 ^ 1074) (zero-mul (up e)) ∙ zero-mul (2 ^ 1074)))
of_value (fin false (suc m) e) a A h = ap root_of_units (ap (λ (x : ℕ). x / down e) h.1 ∙ mul-div_cancel a (down_pos e))

pub bits_root : (x r : Float) (b : ℕ) → T (fits binary64 x) → to_bits binary64 x ≡ b → 0 < b → b < 0x7ff0_0000_0000_0000 → r ≡ root_of_units (units_of b) → r ≡ root_of x
bits_root x r b h e p l k = k ∙ sym (of_value x (units_of b) (units_pos (b / 2 ^ 52) (b % 2 ^ 52) (omega arith)) (subst (λ (y : Float). HasValue y false (units_of b) (2 ^ 1074)) (by_bits x b h e) (bits_value b l)))

-- ---- below zero, and a NaN's pattern
negative : (x : Float) (a : ℕ) → 0 < a → HasValue x true a (2 ^ 1074) → root_of x ≡ nan
unfolding root_of
negative nan a A h = absurd h
negative (inf s) a A h = absurd h
negative (fin false m e) a A h = absurd (true≢false (sym h.0))
negative (fin true zero e) a A h = absurd (no_zero a (down e) A (down_pos e) (0 * up e * 2 ^ 1074) h.1 (ap (λ (x : ℕ). x * 2 ^ 1074) (zero-mul (up e)) ∙ zero-mul (2 ^ 1074)))
negative (fin true (suc m) e) a A h = refl

negative_odd : (q k : ℕ) → 0 < q → root_of (odd 53 true q k 1074) ≡ nan
negative_odd q k h = negative (odd 53 true q k 1074) (q * 2 ^ k) (mul-pos h (lib.Pow.pow_pos k)) (odd_sign 53 true q k 1074)

either : (b b' : Bool) (v : Float) → root_of v ≡ nan → root_of (cond b (cond b' (inf true) nan) v) ≡ nan
unfolding root_of
either true true v h = refl
either true false v h = refl
either false b' v h = h

negative_fields : (x t : ℕ) → 0 < x + t → root_of (of_fields binary64 true x t) ≡ nan
unfolding of_fields
negative_fields zero t h = negative_odd t 0 (omega arith)
negative_fields (suc x) t h = either (eqb (suc x) 2047) (eqb t 0) (odd 53 true (2 ^ 52 + t) x 1074) (negative_odd (2 ^ 52 + t) x (omega arith))

nan_fields : (t : ℕ) → 0 < t → root_of (of_fields binary64 false 2047 t) ≡ nan
unfolding of_fields root_of
nan_fields t h = ap (λ (b : Bool). root_of (cond b (inf false) nan)) (ne_eqb t 0 (λ e. omega arith))

none_bits : (b : ℕ) → b < 2 ^ 64 → (b ≡ 0x8000_0000_0000_0000 → ⊥) → (b ≡ 0x7ff0_0000_0000_0000 → ⊥) → 0x7ff0_0000_0000_0000 ≤ b → root_of (of_bits binary64 b) ≡ nan
unfolding of_bits
none_bits b w m n h = go (dec_le (2 ^ 63) b)
  where
    go : Dec (2 ^ 63 ≤ b) → root_of (of_fields binary64 (leb (2 ^ 63) b) (b % 2 ^ 63 / 2 ^ 52) (b % 2 ^ 52)) ≡ nan
    go (yes l) = ap (λ (s : Bool). root_of (of_fields binary64 s (b % 2 ^ 63 / 2 ^ 52) (b % 2 ^ 52))) (le-leb (2 ^ 63) b l) ∙ negative_fields (b % 2 ^ 63 / 2 ^ 52) (b % 2 ^ 52) (omega arith)
    go (no l) =
        let k : b < 2 ^ 63 = lt_of_not-le l in
        let f : b % 2 ^ 63 / 2 ^ 52 ≡ 2047 = omega arith in
        ap root_of (three (lt-leb (2 ^ 63) b k) f refl) ∙ nan_fields (b % 2 ^ 52) (omega arith)

no_number : div binary64 (of_bits binary64 0) (of_bits binary64 0) ≡ nan
unfolding div of_bits
no_number = refl

pub none_root : (x : Float) → T (fits binary64 x)
    → (to_bits binary64 x ≡ 0x8000_0000_0000_0000 → ⊥) → (to_bits binary64 x ≡ 0x7ff0_0000_0000_0000 → ⊥)
    → 0x7ff0_0000_0000_0000 ≤ to_bits binary64 x
    → div binary64 (of_bits binary64 0) (of_bits binary64 0) ≡ root_of x
none_root x h a b c = no_number ∙ sym (none_bits (to_bits binary64 x) (to_bits-lt binary64 x h) a b c) ∙ ap root_of (by_bits x (to_bits binary64 x) h refl)
