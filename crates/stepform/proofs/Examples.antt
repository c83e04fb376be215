-- The weights of a fraction, the points that an axis reads beyond its ends, shifts by a ratio on either side of zero and beyond n for both boundaries, subnormal entries, the ratio of an axis and what 7 asks of it,
-- worked out in f64 arithmetic beside the definitions, by computation. Assumes nothing.
use mathlib.Core.Path.{◌≡◌, refl}
use mathlib.Core.Bool.{true, false}
use mathlib.Core.List.{List, [], ◌∷◌, ◌++◌, map}
use Prim.Native.Nat.{ℕ}
use lib.IntN.{pos, negsuc}
use lib.Ieee.{Float, binary64, add, sub, mul, div, neg, lt, le, eq, of_int, of_bits, to_bits}
use Rattle.numbers.specs.Root.{root_in, whole_root, root_of_units, root_of}
use Rattle.numbers.specs.Whole.{whole_of, fraction_of}
use Rattle.numbers.specs.Residues.{wrap}
use Rattle.lists.specs.Lists.{pick, listed, tab, flat}
use Rattle.lists.specs.Floats.{sum_on}
use Rattle.shape.specs.Cores.{Core, core_with, place, entry, block}
use Rattle.stepform.specs.declared.Axis.{Axis}
use Rattle.stepform.specs.Boundaries.{periodic, reflecting, boundary_ok, reflected, wrapped}
use Rattle.stepform.specs.Axes.{axis_ok}
use Rattle.stepform.specs.Weights.{cubic_band_weights, band_on, shifted_at}
use Rattle.stepform.specs.declared.Shift.{Shift}
use Rattle.stepform.specs.declared.Shift.TheVariants.{Stay, By}
use Rattle.stepform.specs.Shifts.{distance, spacing, shift_of, shifted}

abbrev of : ℕ → Float
of n = of_bits binary64 n

abbrev bits : List Float → List ℕ
bits l = map (to_bits binary64) l

abbrev three : Core
three = core_with 1 3 1 (map of (0x3fb999999999999a ∷ 0x3fe6666666666666 ∷ 0xbfd3333333333333 ∷ []))

abbrev rising : Core
rising = core_with 1 3 1 (map of (0x4010000000000000 ∷ 0x4020000000000000 ∷ 0x4030000000000000 ∷ []))

abbrev tiny : Core
tiny = core_with 1 4 1 (map of (0x1d74124e3d1 ∷ 0x3cbf65c15df5 ∷ 0x8005089620deefc6 ∷ 0xe61acf033d1a4 ∷ []))

abbrev some_axis : Axis
some_axis = record { a = of 0x3fe3333333333333; b = of 0x3fc999999999999a; xmin = of 0xbff0000000000000; xmax = of 0x4000000000000000; boundary = reflecting }

-- from the least to the greatest number: its length is above all f64, and so is its spacing
abbrev endless_axis : Axis
endless_axis = record { a = of 0; b = of 0x3ff0000000000000; xmin = of 0xffefffffffffffff; xmax = of 0x7fefffffffffffff; boundary = periodic }

abbrev with_a : ℕ → ℕ → Axis
with_a a boundary = record { a = of a; b = of 0; xmin = of 0; xmax = of 0x3ff0000000000000; boundary = boundary }

abbrev ratio_of : Shift → ℕ
ratio_of Stay = 0
ratio_of (By r b) = to_bits binary64 r

pub record Examples : Type 0 where
  pub weights : bits (cubic_band_weights (of 0x3fd3333333333333)) ≡ 0xbfae76c8b4395810 ∷ 0x3fe8c083126e978d ∷ 0x3fd5374bc6a7ef9e ∷ 0xbfa74bc6a7ef9db1 ∷ []
  pub ahead : bits (shifted three (of 0x3ff4cccccccccccd) periodic) ≡ 0x3fc3df3b645a1cab ∷ 0x3fd083126e978d51 ∷ 0x3fb6353f7ced916a ∷ []
  pub behind : bits (shifted three (of 0xc01dcccccccccccd) periodic) ≡ 0x3fc3fdf3b645a1cb ∷ 0x3fd0083126e978d5 ∷ 0x3fb7e353f7ced915 ∷ []
  pub subnormal : bits (shifted tiny (of 0x3fd3333333333333) periodic) ≡ 0x11d6eb7145836 ∷ 0x800075638b474a35 ∷ 0x800378360c6ee131 ∷ 0xc67d856dcf6d3 ∷ []
  pub ratio : ratio_of (shift_of some_axis (of 0x3fb999999999999a) 3) ≡ 0x3fd5c17200e4310c
  -- an infinite spacing is no reason to stay
  pub endless : shift_of endless_axis (of 0x3ff0000000000000) 3 ≡ By (of 0) periodic
  -- ---- boundaries
  -- of 3 points, from -7 to 7: the points in turn, back again, and the same before the first
  pub mirrors : map (wrapped reflecting 3) (map negsuc (6 ∷ 5 ∷ 4 ∷ 3 ∷ 2 ∷ 1 ∷ 0 ∷ []) ++ tab 8 pos) ≡ 0 ∷ 0 ∷ 1 ∷ 2 ∷ 2 ∷ 1 ∷ 0 ∷ 0 ∷ 1 ∷ 2 ∷ 2 ∷ 1 ∷ 0 ∷ 0 ∷ 1 ∷ []
  pub circles : map (wrapped periodic 3) (map negsuc (3 ∷ 2 ∷ 1 ∷ 0 ∷ []) ++ tab 4 pos) ≡ 2 ∷ 0 ∷ 1 ∷ 2 ∷ 0 ∷ 1 ∷ 2 ∷ 0 ∷ []
  pub lone : map (wrapped reflecting 1) (negsuc 1 ∷ negsuc 0 ∷ pos 0 ∷ pos 1 ∷ pos 2 ∷ []) ≡ 0 ∷ 0 ∷ 0 ∷ 0 ∷ 0 ∷ []
  -- 4, 8, 16 by one point: 2 + 2 + 1, 4 + 4 + 1, 8 + 4 + 2
  pub by_hand : bits (shifted rising (of 0x3ff0000000000000) reflecting) ≡ 0x4014000000000000 ∷ 0x4022000000000000 ∷ 0x402c000000000000 ∷ []
  pub mirror_ahead : bits (shifted three (of 0x3ff4cccccccccccd) reflecting) ≡ 0x3fcef0068db8bac8 ∷ 0x3fd083126e978d50 ∷ 0x3f33a92a30553170 ∷ []
  pub mirror_behind : bits (shifted three (of 0xc01dcccccccccccd) reflecting) ≡ 0x3fcd6f34d6a161e4 ∷ 0x3fd0083126e978d6 ∷ 0x3f940346dc5d6384 ∷ []
  -- 7 of an axis: a of -0 is not below zero, and there is no boundary 2
  pub asked : map axis_ok (with_a 0x8000000000000000 periodic ∷ with_a 0x8000000000000000 reflecting ∷ with_a 0x8000000000000000 2 ∷ with_a 0x8000000000000001 reflecting ∷ []) ≡ true ∷ true ∷ false ∷ false ∷ []

pub examples : Examples
unfolding add sub mul div neg lt le eq of_int of_bits to_bits root_in whole_root root_of_units root_of whole_of fraction_of wrap pick listed flat sum_on place entry block
    boundary_ok reflected wrapped axis_ok cubic_band_weights band_on shifted_at distance spacing shift_of shifted
examples = record { weights = refl; ahead = refl; behind = refl; subnormal = refl; ratio = refl; endless = refl; mirrors = refl; circles = refl; lone = refl; by_hand = refl; mirror_ahead = refl; mirror_behind = refl; asked = refl }
