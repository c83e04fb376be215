-- Which numbers the constants of specs/Arithmetic.antt are, by computation. Assumes nothing.
use mathlib.Core.Path.{◌≡◌, refl}
use Prim.Native.Nat.{◌^◌}
use mathlib.Core.Bool.{true, false}
use lib.IntN.{pos, negsuc}
use lib.Ieee.{fin, binary64, round, neg, div, of_bits, of_int}
use Rattle.numbers.specs.Arithmetic.{over, zero64, one64, two64, half64, quarter64, sixth64, tiny64, tolerance64, farthest64}

pub zero_is : zero64 ≡ fin false 0 (pos 0)
unfolding of_bits
zero_is = refl

pub one_is : one64 ≡ fin false 1 (pos 0)
unfolding of_bits
one_is = refl

pub two_is : two64 ≡ fin false 1 (pos 1)
unfolding of_bits
two_is = refl

pub half_is : half64 ≡ fin false 1 (negsuc 0)
unfolding of_bits
half_is = refl

pub quarter_is : quarter64 ≡ fin false 1 (negsuc 1)
unfolding of_bits
quarter_is = refl

-- the f64 nearest to 1 / 6, which is 1.0 / 6.0
pub sixth_is : sixth64 ≡ over one64 (of_int binary64 (pos 6))
unfolding of_bits of_int div
sixth_is = refl

-- the f64 nearest to 10 ^ -30
pub tiny_is : tiny64 ≡ round binary64 false 1 (10 ^ 30)
unfolding of_bits round
tiny_is = refl

-- the f64 nearest to 10 ^ -14
pub tolerance_is : tolerance64 ≡ round binary64 false 1 (10 ^ 14)
unfolding of_bits round
tolerance_is = refl

pub farthest_is : farthest64 ≡ fin false 1 (pos 31)
unfolding of_bits
farthest_is = refl

pub neg_farthest_is : neg farthest64 ≡ fin true 1 (pos 31)
unfolding of_bits neg
neg_farthest_is = refl
