-- A chance as text, in ASCII: with six decimals, and as the bits of its f64. Definitions only.
use Rattle.std.specs.Prelude.{ℕ, ◌/◌, ◌&&◌, List, ◌∷◌, ◌++◌, replicate, nat_abs, Float}
use Rattle.std.specs.Float.{binary64}
use Rattle.std.specs.Float.Ieee.{to_bits, of_bits, le, lt}
use Rattle.io.specs.Digits.{last_digits}
use Rattle.numbers.specs.Arithmetic.{times, zero64}
use Rattle.numbers.specs.Whole.{whole_in_reach}
use Rattle.lists.specs.Lists.{pick}

-- 1000000.0
abbrev pub million64 : Float
million64 = of_bits binary64 0x412e_8480_0000_0000

-- 10000000.0
abbrev pub ten_million64 : Float
ten_million64 = of_bits binary64 0x4163_12d0_0000_0000

-- m millionths: a digit, a point, six digits
unfoldable pub pointed : ℕ → List ℕ
pointed m = last_digits 10 1 (m / 1000000) ++ (46 ∷ last_digits 10 6 m)

-- no digits
abbrev pub dashes : List ℕ
dashes = replicate 8 45

-- The largest whole number of millionths that is not above x times a million, a product that is rounded once; dashes for what is below zero,
-- has no single digit before the point, or is no number.
unfoldable pub chance_text : Float → List ℕ
chance_text x = let y = times x million64 in pick (le zero64 y && lt y ten_million64) (pointed (nat_abs (whole_in_reach y))) dashes

-- the 16 digits of its bits in base 16, the highest first
unfoldable pub bits_text : Float → List ℕ
bits_text x = last_digits 16 16 (to_bits binary64 x)
