-- A finite x less itself is zero, and what isn't finite stays so in a sum and a product. Assumes nothing.
use mathlib.Core.Path.{◌≡◌, refl, ap, ◌∙◌}
use Prim.Native.Nat.{ℕ, ◌*◌}
use native.Mathlib.Nat.{sub_self, le_refl, mul-pos}
use mathlib.Core.Bool.{Bool, true, false, beq, cond, true≢false}
use borrow.Author.Tests.{le-ltb}
use lib.Dec.{T, eqb}
use lib.IntN.{ℤ, pos}
use lib.Ieee.{Float, nan, inf, fin, binary64, up, down, unlike, neg, sum, add, sub, mul}
use lib.Ieee.Fits.{down_pos}
use Rattle.numbers.specs.Arithmetic.{plus, minus, times}
use Rattle.numbers.specs.Finite.{finite}
use Rattle.numbers.proofs.Values.{round_zero}
use Rattle.numbers.proofs.Swaps.{plus_swap, times_swap}

less_itself : (s : Bool) (m : ℕ) (e : ℤ) → minus (fin s m e) (fin s m e) ≡ fin false 0 (pos 0)
unfolding sub add neg sum
less_itself true m e = let a = m * up e * down e in rw (le-ltb a a (le_refl a), sub_self a) (round_zero binary64 false (down e * down e) (mul-pos (down_pos e) (down_pos e)))
less_itself false m e = let a = m * up e * down e in rw (le-ltb a a (le_refl a), sub_self a) (round_zero binary64 false (down e * down e) (mul-pos (down_pos e) (down_pos e)))

-- a finite number less itself is +0
pub minus_self : (x : Float) → T (finite x) → minus x x ≡ fin false 0 (pos 0)
minus_self nan h = absurd h
minus_self (inf s) h = absurd h
minus_self (fin s m e) h = less_itself s m e

-- ---- what isn't finite lasts
one_of : (b s : Bool) → finite (cond b (inf s) nan) ≡ false
one_of true s = refl
one_of false s = refl

none_of : (b s : Bool) → finite (cond b nan (inf s)) ≡ false
none_of true s = refl
none_of false s = refl

pub plus_lasts : (x y : Float) → finite x ≡ false → finite (plus x y) ≡ false
unfolding add
plus_lasts nan y h = refl
plus_lasts (inf s) nan h = refl
plus_lasts (inf s) (inf t) h = one_of (beq s t) s
plus_lasts (inf s) (fin t n d) h = refl
plus_lasts (fin s m e) y h = absurd (true≢false h)

pub lasts_plus : (x y : Float) → finite y ≡ false → finite (plus x y) ≡ false
lasts_plus x y h = ap finite (plus_swap x y) ∙ plus_lasts y x h

pub times_lasts : (x y : Float) → finite x ≡ false → finite (times x y) ≡ false
unfolding mul
times_lasts nan y h = refl
times_lasts (inf s) nan h = refl
times_lasts (inf s) (inf t) h = refl
times_lasts (inf s) (fin t n d) h = none_of (eqb n 0) (unlike s t)
times_lasts (fin s m e) y h = absurd (true≢false h)

pub lasts_times : (x y : Float) → finite y ≡ false → finite (times x y) ≡ false
lasts_times x y h = ap finite (times_swap x y) ∙ times_lasts y x h
