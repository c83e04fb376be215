-- Examples, by computation.
use mathlib.Core.Path.{◌≡◌, refl}
use lib.Ieee.{fin, binary64, round, neg, add, sub, of_int, of_bits, to_bits}
use mathlib.Core.Bool.{true, false}
use lib.IntN.{pos, negsuc}
use Rattle.numbers.specs.Root.{root_of}
use Rattle.numbers.specs.Floor.{floor_of}
use Rattle.numbers.specs.Arithmetic.{one64, quarter64}
use Rattle.numbers.specs.Whole.{whole_of, fraction_of}

two : to_bits binary64 (root_of (of_bits binary64 0x4000_0000_0000_0000)) ≡ 0x3FF6_A09E_667F_3BCD
unfolding root_of of_bits to_bits
two = refl

even : root_of (fin false 1 (negsuc 207)) ≡ fin false 1 (negsuc 103)
unfolding root_of
even = refl

least : to_bits binary64 (root_of (of_bits binary64 1)) ≡ 0x1E60_0000_0000_0000
unfolding root_of of_bits to_bits
least = refl

most : to_bits binary64 (root_of (of_bits binary64 0x7fef_ffff_ffff_ffff)) ≡ 0x5fef_ffff_ffff_ffff
unfolding root_of of_bits to_bits
most = refl

down : to_bits binary64 (floor_of (of_bits binary64 0xC004_0000_0000_0000)) ≡ 0xC008_0000_0000_0000
unfolding floor_of of_bits to_bits
down = refl

-- -0.25 lies above -1
quarter : whole_of (neg quarter64) ≡ negsuc 0
unfolding whole_of neg of_bits
quarter = refl

-- -2 ^ -60 lies above -1 by an f64 of 1
just_below : (whole_of (fin true 1 (negsuc 59)) ≡ negsuc 0) × (fraction_of (fin true 1 (negsuc 59)) ≡ one64)
unfolding whole_of fraction_of sub add neg of_int round of_bits
just_below = (refl, refl)

-- -0 keeps its sign above its floor
minus_zero : fraction_of (fin true 0 (pos 0)) ≡ fin true 0 (pos 0)
unfolding whole_of fraction_of sub add neg of_int round
minus_zero = refl
