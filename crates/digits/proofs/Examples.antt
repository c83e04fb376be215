-- Worked examples, by computation. Assumes nothing.
use mathlib.Core.Path.{◌≡◌, refl}
use Prim.Native.Nat.{ℕ}
use mathlib.Core.Bool.{true, false}
use mathlib.Core.List.{List, [], ◌∷◌}
use lib.IntN.{pos, negsuc}
use lib.Ieee.{Float, fin, nan, of_bits, binary64, neg, mul, le, lt, to_bits}
use Rattle.numbers.specs.Whole.{whole_of}
use Rattle.lists.specs.Lists.{pick}
use Rattle.digits.specs.Text.{pointed, dashes, chance_text, bits_text}

chance_as : Float → List ℕ
unfolding chance_text pointed pick whole_of of_bits mul le lt neg
chance_as x = chance_text x

-- 0.29 as an f64 is a little less, and its product with a million is rounded to 290000: "0.290000"
example : chance_as (of_bits binary64 0x3fd2_8f5c_28f5_c28f) ≡ 48 ∷ 46 ∷ 50 ∷ 57 ∷ 48 ∷ 48 ∷ 48 ∷ 48 ∷ []
unfolding chance_as
example = refl

-- "1.000000"
certain : chance_as (fin false 1 (pos 0)) ≡ 49 ∷ 46 ∷ 48 ∷ 48 ∷ 48 ∷ 48 ∷ 48 ∷ 48 ∷ []
unfolding chance_as
certain = refl

-- 2 ^ -20 is 0.00000095..: what is behind the sixth decimal is cut off
small : chance_as (fin false 1 (negsuc 19)) ≡ 48 ∷ 46 ∷ 48 ∷ 48 ∷ 48 ∷ 48 ∷ 48 ∷ 48 ∷ []
unfolding chance_as
small = refl

-- below zero, ten, no number
negative : chance_as (fin true 1 (negsuc 0)) ≡ dashes
unfolding chance_as
negative = refl

ten : chance_as (fin false 5 (pos 1)) ≡ dashes
unfolding chance_as
ten = refl

none : chance_as nan ≡ dashes
unfolding chance_as
none = refl

-- 1.0: "3ff0000000000000"
one : bits_text (fin false 1 (pos 0)) ≡ 51 ∷ 102 ∷ 102 ∷ 48 ∷ 48 ∷ 48 ∷ 48 ∷ 48 ∷ 48 ∷ 48 ∷ 48 ∷ 48 ∷ 48 ∷ 48 ∷ 48 ∷ 48 ∷ []
unfolding bits_text to_bits
one = refl
