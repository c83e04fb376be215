-- The theorems: what `root`, `floor`, `magnitude`, `whole` and `fraction` give, for every f64. Assumes nothing.
use mathlib.Core.Path.{◌≡◌, refl, sym, ◌∙◌}
use Prim.Native.Nat.{ℕ, zero, suc, ◌^◌}
use mathlib.Core.Bool.{Bool, true, false}
use lib.IntN.{ℤ}
use lib.Dec.{T}
use lib.Ieee.{Float, nan, inf, fin, binary64, le, eq, fits}
use lib.Ieee.Exact.{HasValue}
use Rattle.numbers.specs.Arithmetic.{zero64, one64}
use Rattle.numbers.specs.Finite.{finite}
use Rattle.numbers.specs.Value.{units_in}
use Rattle.numbers.specs.Root.{SquareRoot, root_of}
use Rattle.numbers.specs.Floor.{Floored, floor_of}
use Rattle.numbers.specs.Magnitude.{SignCleared, magnitude_of}
use Rattle.numbers.specs.Whole.{signed, whole_of, fraction_of}
use Rattle.numbers.proofs.Units as at-units
use Rattle.numbers.proofs.RootNearest.{nearest, only}
use Rattle.numbers.proofs.FloorExact.{kept_zero, below, is_floor}
use Rattle.numbers.proofs.SignBit.{cleared}
use Rattle.numbers.proofs.Wholes.{floor_whole, ZeroFraction, zero_fraction}
use Rattle.numbers.proofs.Fractions.{fraction_in_unit}

-- a NaN and what is below zero have none, the infinity and the zeros are their own, and any other is rounded to the nearest f64, where no two are as near
pub root_right : (x : Float) → T (fits binary64 x) → SquareRoot x (root_of x)
unfolding root_of
root_right nan f = refl
root_right (inf false) f = refl
root_right (inf true) f = refl
root_right (fin false zero e) f = refl
root_right (fin true zero e) f = refl
root_right (fin true (suc m) e) f = refl
root_right (fin false (suc m) e) f = nearest m e f

-- and nothing else is a square root of x
pub root_only : (x r : Float) → T (fits binary64 x) → SquareRoot x r → r ≡ root_of x
unfolding root_of
root_only nan r f h = h
root_only (inf false) r f h = h
root_only (inf true) r f h = h
root_only (fin false zero e) r f h = h
root_only (fin true zero e) r f h = h
root_only (fin true (suc m) e) r f h = h
root_only (fin false (suc m) e) r f h = only (fin false (suc m) e) r (root_of (fin false (suc m) e)) h (nearest m e f)

-- a NaN, the infinities and the zeros are kept, and any other gives a whole number r with r ≤ x < r + 1
pub floor_right : (x : Float) → T (fits binary64 x) → Floored x (floor_of x)
unfolding floor_of
floor_right nan f = refl
floor_right (inf s) f = refl
floor_right (fin s zero e) f = kept_zero s e f
floor_right (fin s (suc m) e) f = below s (suc m) e f

-- and nothing else does
pub floor_only : (x r : Float) → T (fits binary64 x) → Floored x r → r ≡ floor_of x
floor_only nan r f h = unfold floor_of in h
floor_only (inf s) r f h = unfold floor_of in h
floor_only (fin s zero e) r f h = h ∙ sym (kept_zero s e f)
floor_only (fin s (suc m) e) r f h = let x = fin s (suc m) e in is_floor x r s (units_in x) h.c f h.held (at-units.units_exact s (suc m) e f) h.whole h.within

-- a NaN is kept, and of any other the sign's bit is cleared
pub magnitude_right : (x : Float) → T (fits binary64 x) → SignCleared x (magnitude_of x)
unfolding magnitude_of
magnitude_right nan f = refl
magnitude_right (inf s) f = refl
magnitude_right (fin s m e) f = cleared s m e f

-- a finite f64 is as many units of 2 ^ -1074 as `units_in` says
pub units_exact : (s : Bool) (m : ℕ) (e : ℤ) → T (fits binary64 (fin s m e)) → HasValue (fin s m e) s (units_in (fin s m e)) (2 ^ 1074)
units_exact s m e f = at-units.units_exact s m e f

-- the integer that `whole` answers is the floor, by sign and size
pub whole_right : (s : Bool) (m : ℕ) (e : ℤ) → T (fits binary64 (fin s m e)) → (c : ℕ) × (whole_of (fin s m e) ≡ signed s c) × HasValue (floor_of (fin s m e)) s c 1
whole_right = floor_whole

-- what an f64 has above its floor lies from 0 to 1, 1 included
pub fraction_right : (x : Float) → T (fits binary64 x) → T (finite x) → T (le zero64 (fraction_of x)) × T (le (fraction_of x) one64)
fraction_right = fraction_in_unit

-- and where that is zero, the floor of -x is minus the floor of x, and -x has nothing above its floor either
pub still_right : (x : Float) → T (fits binary64 x) → T (finite x) → eq (fraction_of x) zero64 ≡ true → ZeroFraction x
still_right = zero_fraction
