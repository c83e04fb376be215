-- The library's words for a finite f64, one without its sign and its floor are those of specs/. Assumes nothing.
use mathlib.Core.Path.{◌≡◌, refl, ap, ◌∙◌}
use Prim.Native.Nat.{ℕ, ◌+◌, ◌-◌, ◌*◌, ◌/◌, ◌%◌, ◌<◌}
use native.Mathlib.Omega.{arith}
use mathlib.Core.Bool.{Bool, true, false, cond}
use native.Mathlib.Nat.{div-add-mod', add-mul, mod-lt}
use borrow.Author.Tests.{eqb-false}
use lib.Arith.{digits_div}
use lib.Dec.{T, eqb, eqb→eq}
use lib.Ieee.{Float, nan, inf, fin, binary64, up, down, round}
use lib.Ieee.Fits.{down_pos}
use Rattle.std.specs.Float.{float_is_finite, float_with_sign, floor, round_with, ratio_ceil}
use Rattle.numbers.specs.Finite.{finite}
use Rattle.numbers.specs.Magnitude.{magnitude_of}
use Rattle.numbers.specs.Floor.{cut, floor_of}

pub library_finite : (x : Float) → float_is_finite x ≡ finite x
unfolding float_is_finite
library_finite nan = refl
library_finite (inf s) = refl
library_finite (fin s m e) = refl

pub abs_magnitude : (x : Float) → float_with_sign false x ≡ magnitude_of x
unfolding float_with_sign magnitude_of
abs_magnitude nan = refl
abs_magnitude (inf s) = refl
abs_magnitude (fin s m e) = refl

ceil_cut : (a b : ℕ) → 0 < b → ratio_ceil a b ≡ cut true a b
ceil_cut a b B = go (eqb (a % b) 0) (eqb→eq (a % b) 0) (eqb-false (a % b) 0)
  where
    go : (t : Bool) → (T t → a % b ≡ 0) → (t ≡ false → a % b ≡ 0 → ⊥) → (a + b - 1) / b ≡ cond t (a / b) (a / b + 1)
    go true h n =
        let e : a + b - 1 ≡ a / b * b + (b - 1) = omega (arith, div-add-mod' a b, h tt) in
        ap (λ (x : ℕ). x / b) e ∙ digits_div (a / b) (omega arith)
    go false h n =
        let i : 0 < a % b = omega (arith, n refl) in
        let e : a + b - 1 ≡ (a / b + 1) * b + (a % b - 1) = omega (arith, div-add-mod' a b, add-mul (a / b) 1 b) in
        ap (λ (x : ℕ). x / b) e ∙ digits_div (a / b + 1) (omega (arith, mod-lt a B))

pub library_floor : (x : Float) → floor binary64 x ≡ floor_of x
unfolding round_with floor_of
library_floor nan = refl
library_floor (inf s) = refl
library_floor (fin false m e) = refl
library_floor (fin true m e) = ap (λ (c : ℕ). round binary64 true c 1) (ceil_cut (m * up e) (down e) (down_pos e))
