-- Scaled mode worked out beside the definitions, by computation. Assumes nothing.
-- Each of the three tests at the numbers next to its bound and at the bound itself, with its products in their order; sums and numbers that are zero, or become so; and cuts that absolute
-- mode makes otherwise.
use mathlib.Core.Path.{◌≡◌, refl}
use mathlib.Core.Bool.{Bool, true, false}
use mathlib.Core.List.{List, [], ◌∷◌, map}
use Prim.Native.Nat.{ℕ}
use lib.Ieee.{Float, binary64, add, sub, mul, div, neg, lt, le, eq, of_bits, to_bits}
use Rattle.numbers.specs.Arithmetic.{zero64}
use Rattle.numbers.specs.Root.{root_in, whole_root, root_of_units, root_of}
use Rattle.lists.specs.Lists.{pick, listed, flat, first, count, pairs, folded}
use Rattle.lists.specs.Walks.{along}
use Rattle.lists.specs.Floats.{sum_on, sum_to, sum_rows, all_finite, first_not_finite, stored}
use Rattle.shape.specs.Cores.{Core, core_with, place, entry, block}
use Rattle.cutform.specs.Rotation.{tangent_of, slope_of, cosine_of, turned_at, eye}
use Rattle.cutform.specs.Modes.{scaled_mode, absolute_cut, scaled_cut, mode_ok, off_sum, diagonal_sum, small_beside, settled, skipped, divided}
use Rattle.cutform.specs.Sweeps.{turn_columns, turn_rows, cleared, turned, rotate, sweep, sweeps_from, diagonalized}
use Rattle.cutform.specs.Values.{singular_of, singulars, place_in, index_at, order, sorted, threshold_of, kept_rank, dropped_from}
use Rattle.cutform.specs.Factors.{left_factor, carry_of}
use Rattle.cutform.specs.Bonds.{gram, cut_bond}
use Rattle.cutform.proofs.Examples.{Seen, seen, saw, one, four, lone}

-- ---- numbers by their bits: 1e-15; 2e-15 is twice that, and the number before each has bits that are 1 less
abbrev quadrillionth : ℕ
quadrillionth = 0x3cd203af9ee75616

-- a number whose square has 2*g*g = 1e-30; one whose square is too little to be added to 1, unless it is there twice by then
abbrev half_squared : ℕ
half_squared = 0x3cc979e8ae802112

abbrev lost : ℕ
lost = 0x3e44000000000000

abbrev minus : ℕ
minus = 0x8000000000000000

-- 1e-170, whose square is zero
abbrev vanishing : ℕ
vanishing = 0x1ca3529ba7d19eaf

-- ---- matrices of two rows, low and high on the diagonal and g off it; and of three, g at (0, 1) alone
abbrev two_rows : ℕ → ℕ → ℕ → List Float
two_rows low g high = map (of_bits binary64) (low ∷ g ∷ g ∷ high ∷ [])

abbrev three_rows : ℕ → ℕ → ℕ → ℕ → List Float
three_rows a b c g = map (of_bits binary64) (a ∷ g ∷ 0 ∷ g ∷ b ∷ 0 ∷ 0 ∷ 0 ∷ c ∷ [])

abbrev skips : ℕ → ℕ → ℕ → Bool
skips low g high = skipped scaled_mode 2 (two_rows low g high) 0 1

abbrev stops : ℕ → ℕ → ℕ → Bool
stops low g high = settled scaled_mode 2 (two_rows low g high)

-- ---- cores, all times 2^-60: 1 on the diagonal and g above it, of two columns and of three
abbrev little : ℕ
little = 0x3c30000000000000

abbrev leaning : ℕ → Core
leaning g = core_with 1 2 2 (map (of_bits binary64) (little ∷ g ∷ 0 ∷ little ∷ []))

abbrev three_wide : ℕ → Core
three_wide g = core_with 1 3 3 (map (of_bits binary64) (little ∷ g ∷ g ∷ 0 ∷ little ∷ g ∷ 0 ∷ 0 ∷ little ∷ []))

-- what becomes of them where no pair is turned, g being what stands above the 1s
abbrev unturned : ℕ → Seen
unturned g = saw 2 0 (one ∷ g ∷ 0 ∷ one ∷ []) (little ∷ 0 ∷ 0 ∷ little ∷ [])

abbrev unturned_three : ℕ → Bool → ℕ → Seen
unturned_three c b g = record {
  right = 3;
  bond = record { rank = 3; sweeps = c; settled = b; dropped = zero64 };
  left = one ∷ g ∷ g ∷ 0 ∷ one ∷ g ∷ 0 ∷ 0 ∷ one ∷ [];
  carry = little ∷ 0 ∷ 0 ∷ 0 ∷ little ∷ 0 ∷ 0 ∷ 0 ∷ little ∷ [];
}

-- and where the pair is turned, by half a right angle
abbrev turned_once : Seen
turned_once =
    saw 2 1 (0x3fe6a09e667f3bd1 ∷ 0x3fe6a09e667f3bca ∷ 0x3fe6a09e667f3bcb ∷ 0xbfe6a09e667f3bd0 ∷ [])
    (0x3c26a09e667f3bcd ∷ 0x3c26a09e667f3bcd ∷ 0x3c26a09e667f3bc8 ∷ 0xbc26a09e667f3bc8 ∷ [])

pub record ScaledExamples : Type 0 where
  -- 0 and 1 are modes, 2 is none
  pub modes : (mode_ok 0 ≡ true) × (mode_ok 1 ≡ true) × (mode_ok 2 ≡ false)
  -- beside 4 and 1 the square of 2e-15 is 1e-30 times their product, which is not below it; that of the number before it is
  pub skips_below : skips four 0x3ce203af9ee75615 one ≡ true
  pub turns_at : skips four 0x3ce203af9ee75616 one ≡ false
  -- the product of the two comes first: beside 1e-300 and 1e300 it is 1, and 1e-16 is skipped; beside 1e200 and 1e130 infinite, and 1e151 is
  pub product_first : skips 0x01a56e1fc2f8f359 0x3c9cd2b297d889bc 0x7e37e43c8800759c ≡ true
  pub product_infinite : skips 0x6974e718d7d7625a 0x5f48708279e4bc5b 0x5aecda62055b2d9e ≡ true
  -- beside nothing a zero of either sign is skipped, and no other number, though its square is zero
  pub skips_zeros : (skips 0 0 0 ≡ true) × (skips 0 minus 0 ≡ true)
  pub turns_vanishing : skips 0 vanishing 0 ≡ false
  -- beside 1 and 1 twice the square of 1e-15 is 1e-30 times 2
  pub stops_below : stops one 0x3cd203af9ee75615 one ≡ true
  pub goes_on_at : stops one quadrillionth one ≡ false
  -- the squares are added from the first on: 1 takes in neither of two that are lost on it, and 1e-30 is not below 1e-30 times 1; behind them it is
  pub first_to_last : (settled scaled_mode 3 (three_rows one lost lost half_squared) ≡ false) × (settled scaled_mode 3 (three_rows lost lost one half_squared) ≡ true)
  -- a sum that is zero stops the sweeps, of zeros and of numbers whose squares vanish
  pub stops_at_zero : (stops 0 0 0 ≡ true) × (stops 0 minus 0 ≡ true) × (stops 0 vanishing 0 ≡ true)
  -- any value above zero divides, the least root of all too; zero does not
  pub divides : divided scaled_mode (of_bits binary64 0x39b4484bfeebc2a0) ≡ true
  pub divides_least : seen (cut_bond 0 (scaled_cut zero64) (lone 0x1e60000000000000)) ≡ saw 1 0 (one ∷ []) (0x1e60000000000000 ∷ [])
  pub divides_not : (divided scaled_mode (of_bits binary64 0) ≡ false) × (divided scaled_mode (of_bits binary64 minus) ≡ false)
  pub vanished : seen (cut_bond 0 (scaled_cut zero64) (lone 0x1e50000000000000)) ≡ saw 1 0 (0 ∷ []) (0 ∷ [])
  -- the number before 1e-15 stays, 1e-15 is turned, as beside 1; in absolute mode nothing so small is
  pub stays : seen (cut_bond 0 (scaled_cut zero64) (leaning 0x391203af9ee75615)) ≡ unturned 0x3cd203af9ee75615
  pub turns : seen (cut_bond 0 (scaled_cut zero64) (leaning 0x391203af9ee75616)) ≡ turned_once
  pub turns_absolute : seen (cut_bond 0 (absolute_cut zero64) (leaning 0x391203af9ee75616)) ≡ unturned quadrillionth
  -- of three columns every pair may be skipped though the sum is not small: 9e-16 thrice makes 50 sweeps that turn nothing; in absolute mode none is made
  pub idles : seen (cut_bond 0 (scaled_cut zero64) (three_wide 0x391036847569cd7a)) ≡ unturned_three 50 false 0x3cd036847569cd7a
  pub idles_absolute : seen (cut_bond 0 (absolute_cut zero64) (three_wide 0x391036847569cd7a)) ≡ unturned_three 0 true 0x3cd036847569cd7a

pub scaled_examples : ScaledExamples
unfolding add sub mul div neg lt le eq of_bits to_bits root_in whole_root root_of_units root_of pick listed flat first count pairs folded along sum_on sum_to
    sum_rows all_finite first_not_finite stored place entry block tangent_of slope_of cosine_of turned_at eye turn_columns turn_rows cleared turned mode_ok off_sum diagonal_sum
    small_beside settled skipped divided rotate sweep sweeps_from diagonalized singular_of singulars place_in index_at order sorted threshold_of kept_rank dropped_from gram
    left_factor carry_of cut_bond
scaled_examples = record {
  modes = (refl, refl, refl);
  skips_below = refl;
  turns_at = refl;
  product_first = refl;
  product_infinite = refl;
  skips_zeros = (refl, refl);
  turns_vanishing = refl;
  stops_below = refl;
  goes_on_at = refl;
  first_to_last = (refl, refl);
  stops_at_zero = (refl, refl, refl);
  divides = refl;
  divides_least = refl;
  divides_not = (refl, refl);
  vanished = refl;
  stays = refl;
  turns = refl;
  turns_absolute = refl;
  idles = refl;
  idles_absolute = refl;
}
