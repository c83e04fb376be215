-- f64's operators under short names, and the numbers that the work names. Definitions only.
-- A number is written as the pattern that its literal in the code has; proofs/Constants.antt says which number that is.
use Rattle.std.specs.Prelude.{Float}
use Rattle.std.specs.Float.{binary64}
use Rattle.std.specs.Float.Ieee.{of_bits, add, sub, mul, div}

-- x + y, x - y, x * y and x / y, each rounded once
abbrev pub plus : Float → Float → Float
plus = add binary64

abbrev pub minus : Float → Float → Float
minus = sub binary64

abbrev pub times : Float → Float → Float
times = mul binary64

abbrev pub over : Float → Float → Float
over = div binary64

-- 0.0
abbrev pub zero64 : Float
zero64 = of_bits binary64 0

-- 1.0
abbrev pub one64 : Float
one64 = of_bits binary64 0x3ff0_0000_0000_0000

-- 2.0
abbrev pub two64 : Float
two64 = of_bits binary64 0x4000_0000_0000_0000

-- 0.5
abbrev pub half64 : Float
half64 = of_bits binary64 0x3fe0_0000_0000_0000

-- 0.25
abbrev pub quarter64 : Float
quarter64 = of_bits binary64 0x3fd0_0000_0000_0000

-- 1.0 / 6.0
abbrev pub sixth64 : Float
sixth64 = of_bits binary64 0x3fc5_5555_5555_5555

-- 1e-30, below which a sum of squares, a square or a value counts as nothing
abbrev pub tiny64 : Float
tiny64 = of_bits binary64 0x39b4_484b_feeb_c2a0

-- 1e-14, the tolerance of a pair's passes
abbrev pub tolerance64 : Float
tolerance64 = of_bits binary64 0x3d06_849b_86a1_2b9b

-- 2147483648.0, which is 2 ^ 31: no shift over dx is above it in size
abbrev pub farthest64 : Float
farthest64 = of_bits binary64 0x41e0_0000_0000_0000
