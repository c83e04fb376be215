-- Bonds worked out beside the definitions, by computation. Assumes nothing.
-- D of the scope at and past the threshold, a rank above the number of rows, two cores that take one and three sweeps, as f64 arithmetic gives them, and D rounded
-- with a core behind it. Then each comparison with 1e-30 at the numbers next to it and at itself, and sums whose only terms are -0.
use Rattle.std.specs.Prelude.{Ok, Err}
use mathlib.Core.Path.{◌≡◌, refl}
use mathlib.Core.Bool.{Bool, true, false}
use mathlib.Core.List.{List, [], ◌∷◌, map}
use Prim.Native.Nat.{ℕ}
use lib.Ieee.{Float, binary64, add, sub, mul, div, neg, lt, le, eq, of_bits, to_bits}
use lib.IntN.{pos, negsuc}
use lib.Ieee.{fin}
use Rattle.answers.specs.Outcome.{Answer}
use Rattle.numbers.specs.Arithmetic.{zero64}
use Rattle.numbers.specs.Root.{root_in, whole_root, root_of_units, root_of}
use Rattle.lists.specs.Lists.{pick, listed, flat, first, count, pairs, folded}
use Rattle.lists.specs.Walks.{along, walk}
use Rattle.lists.specs.Floats.{sum_on, sum_to, sum_rows, all_finite, first_not_finite, stored}
use Rattle.shape.specs.Cores.{Core, core_with, place, entry, block}
use Rattle.cutform.specs.Rotation.{tangent_of, slope_of, cosine_of, turned_at, eye}
use Rattle.cutform.specs.declared.Bond.{Bond}
use Rattle.cutform.specs.Modes.{absolute_cut, off_sum, settled, skipped, divided}
use Rattle.cutform.specs.Sweeps.{turn_columns, turn_rows, cleared, turned, rotate, sweep, sweeps_from, diagonalized}
use Rattle.cutform.specs.Values.{singular_of, singulars, place_in, index_at, order, sorted, threshold_of, kept_rank, dropped_from}
use Rattle.cutform.specs.Bonds.{gram, no_bond, CutCore, cut_bond, absorb}
use Rattle.cutform.specs.Factors.{left_factor, carry_of}
use Rattle.cutform.specs.Rounding.{Carry, Cut, round_core, rounding, cores_in}

-- what a bond came to, each float by its bits
pub record Seen : Type 0 where
  pub right : ℕ
  pub bond : Bond
  pub left : List ℕ
  pub carry : List ℕ

abbrev bits : List Float → List ℕ
bits l = map (to_bits binary64) l

abbrev pub seen : Answer CutCore → Seen
seen (Ok b) = record { right = b.core.rr; bond = b.bond; left = bits b.core.entries; carry = bits b.carry }
seen (Err r) = record { right = 0; bond = no_bond; left = []; carry = [] }

-- the cores of a rounding
abbrev cores : Answer (List (Carry × Cut)) → List (List ℕ)
cores (Ok tr) = map (λ (c : Core). bits c.entries) (cores_in tr)
cores (Err r) = []

-- where x was dropped, and where all was kept
abbrev saw_without : Float → ℕ → ℕ → List ℕ → List ℕ → Seen
saw_without x r c l b = record { right = r; bond = record { rank = r; sweeps = c; settled = true; dropped = x }; left = l; carry = b }

abbrev pub saw : ℕ → ℕ → List ℕ → List ℕ → Seen
saw = saw_without zero64

abbrev D : Core
D = core_with 1 2 2 (fin false 3 (pos 0) ∷ fin false 0 (pos 0) ∷ fin false 0 (pos 0) ∷ fin false 1 (pos 2) ∷ [])

abbrev half : Float
half = fin false 1 (negsuc 0)

abbrev quarter : Float
quarter = fin false 1 (negsuc 1)

abbrev three_quarters : Float
three_quarters = fin false 3 (negsuc 1)

abbrev least : Float
least = fin false 1 (negsuc 26)

abbrev pub one : ℕ
one = 0x3ff0_0000_0000_0000

abbrev two : ℕ
two = 0x4000_0000_0000_0000

abbrev pub four : ℕ
four = 0x4010_0000_0000_0000

-- a core of rows of three, the numbers by their bits
abbrev three_wide : Core
three_wide = core_with 1 3 3 (map (of_bits binary64) (0x3fb999999999999a ∷ 0x3fe6666666666666 ∷ 0xbfd3333333333333 ∷ 0x3feccccccccccccd ∷ 0x3fc999999999999a ∷ 0x3fd999999999999a ∷ 0x3ff8000000000000 ∷ 0xc000000000000000 ∷ 0x3fd0000000000000 ∷ []))

abbrev two_wide : Core
two_wide = core_with 1 2 2 (map (of_bits binary64) (one ∷ one ∷ 0 ∷ one ∷ []))

-- 1e-12
abbrev small : Float
small = of_bits binary64 0x3d719799812dea11

-- ---- the edges
abbrev nought : Float
nought = fin false 0 (pos 0)

abbrev minus_nought : Float
minus_nought = fin true 0 (pos 0)

-- rows (1, g) and (0, 1): the Gram matrix has 1 on its diagonal and g off it
abbrev leaning : ℕ → Core
leaning g = core_with 1 2 2 (map (of_bits binary64) (one ∷ g ∷ 0 ∷ one ∷ []))

-- 1, 4 and 2 on a diagonal, and what is left of it where only 4 is kept
abbrev diagonal : Core
diagonal = core_with 1 3 3 (map (of_bits binary64) (one ∷ 0 ∷ 0 ∷ 0 ∷ four ∷ 0 ∷ 0 ∷ 0 ∷ two ∷ []))

abbrev four_left : Seen
four_left = saw_without (of_bits binary64 two) 1 0 (0 ∷ one ∷ 0 ∷ []) (0 ∷ four ∷ 0 ∷ [])

-- what becomes of it where no pair is turned
abbrev unturned : ℕ → Bool → ℕ → Seen
unturned c b g = record { right = 2; bond = record { rank = 2; sweeps = c; settled = b; dropped = zero64 }; left = one ∷ g ∷ 0 ∷ one ∷ []; carry = one ∷ 0 ∷ 0 ∷ one ∷ [] }

-- and where g is near 1e-15 and its pair is turned, by half a right angle
abbrev turned_once : Seen
turned_once =
    saw 2 1 (0x3fe6a09e667f3bd1 ∷ 0x3fe6a09e667f3bca ∷ 0x3fe6a09e667f3bcb ∷ 0xbfe6a09e667f3bd0 ∷ [])
    (0x3fe6a09e667f3bcd ∷ 0x3fe6a09e667f3bcd ∷ 0x3fe6a09e667f3bc8 ∷ 0xbfe6a09e667f3bc8 ∷ [])

-- one number
abbrev pub lone : ℕ → Core
lone x = core_with 1 1 1 (of_bits binary64 x ∷ [])

pub record Examples : Type 0 where
  -- 3 lies above 0.5*4, so both are kept
  pub above : seen (cut_bond 0 (absolute_cut half) D) ≡ saw 2 0 (0 ∷ one ∷ one ∷ 0 ∷ []) (0 ∷ 0x4010000000000000 ∷ 0x4008000000000000 ∷ 0 ∷ [])
  -- 3 does not lie above 0.75*4
  pub at_threshold : seen (cut_bond 0 (absolute_cut three_quarters) D) ≡ saw_without (fin false 3 (pos 0)) 1 0 (0 ∷ one ∷ []) (0 ∷ 0x4010000000000000 ∷ [])
  -- of 2 and 1, which are dropped, 2 is told, also where it is the threshold itself; of 1 alone, 1; of nothing, +0
  pub drops_two : seen (cut_bond 0 (absolute_cut three_quarters) diagonal) ≡ four_left
  pub drops_at_threshold : seen (cut_bond 0 (absolute_cut half) diagonal) ≡ four_left
  pub drops_one : seen (cut_bond 0 (absolute_cut quarter) diagonal) ≡ saw_without (of_bits binary64 one) 2 0 (0 ∷ 0 ∷ one ∷ 0 ∷ 0 ∷ one ∷ []) (0 ∷ four ∷ 0 ∷ 0 ∷ 0 ∷ two ∷ [])
  pub drops_none : seen (cut_bond 0 (absolute_cut nought) diagonal) ≡ saw 3 0 (0 ∷ 0 ∷ one ∷ one ∷ 0 ∷ 0 ∷ 0 ∷ one ∷ 0 ∷ []) (0 ∷ four ∷ 0 ∷ 0 ∷ 0 ∷ two ∷ one ∷ 0 ∷ 0 ∷ [])
  -- a value of zero that is not kept
  pub drops_zero : seen (cut_bond 0 (absolute_cut nought) (core_with 1 1 2 (minus_nought ∷ nought ∷ []))) ≡ saw 1 0 (0 ∷ []) (0 ∷ 0 ∷ [])
  -- one row, rank two
  pub above_rows : seen (cut_bond 0 (absolute_cut nought) (core_with 1 1 2 (least ∷ least ∷ []))) ≡ saw 2 0 (one ∷ one ∷ []) (0x3e40000000000000 ∷ 0 ∷ 0 ∷ 0x3e40000000000000 ∷ [])
  pub one_sweep : seen (cut_bond 0 (absolute_cut nought) two_wide)
      ≡ saw 2 1 (0x3feb38880b4603e4 ∷ 0x3fe0d2ca0da1530f ∷ 0x3fe0d2ca0da1530d ∷ 0xbfeb38880b4603e3 ∷ []) (0x3feb38880b4603e2 ∷ 0x3ff605a90c73ab78 ∷ 0x3fe0d2ca0da1530c ∷ 0xbfd4cb7bfb4961ad ∷ [])
  pub three_sweeps : seen (cut_bond 0 (absolute_cut small) three_wide)
      ≡ saw 3 3 (0x3fca06ab851ee7a1 ∷ 0x3fdcec4c3403e0b3 ∷ 0xbfebcb5f125b4ae9 ∷ 0xbfc5f628b091dcf9 ∷ 0x3fec797423bca3a0 ∷ 0x3fdb0f64263d6e3c ∷ 0xbfeed8c374f6b0da ∷ 0xbfb02465004fd8a6 ∷ 0xbfd08ab2b5deb9f9 ∷ [])
      (0xbff947c839ec3dca ∷ 0x40004998b94c7964 ∷ 0xbfd7b836cb5d275a ∷ 0x3fe80be632b49918 ∷ 0x3fe3da7e596e3f21 ∷ 0x3fca2fff79ee50b4 ∷ 0xbfb811e0950aa470 ∷ 0xbf7aa94ffa5156d4 ∷ 0x3fd75d8139a4775b ∷ [])
  -- what is kept of D goes into the core behind it, two ones
  pub rounded : cores (rounding (absolute_cut three_quarters) (D ∷ core_with 2 1 1 (fin false 1 (pos 0) ∷ fin false 1 (pos 0) ∷ []) ∷ [])) ≡ (0 ∷ one ∷ []) ∷ (0x4010000000000000 ∷ []) ∷ []
  -- 1e-15 squared is 1e-30, which is not below it: the pair is turned. The number before 1e-15 is skipped, in each of 50 sweeps
  pub skips_below : seen (cut_bond 0 (absolute_cut nought) (leaning 0x3cd203af9ee75615)) ≡ unturned 50 false 0x3cd203af9ee75615
  pub turns_at : seen (cut_bond 0 (absolute_cut nought) (leaning 0x3cd203af9ee75616)) ≡ turned_once
  pub turns_above : seen (cut_bond 0 (absolute_cut nought) (leaning 0x3cd203af9ee75617)) ≡ turned_once
  -- this g has 2*g*g = 1e-30, which does not stop the sweeps; its own square does not turn the pair
  pub stops_below : seen (cut_bond 0 (absolute_cut nought) (leaning 0x3cc979e8ae802111)) ≡ unturned 0 true 0x3cc979e8ae802111
  pub goes_on_at : seen (cut_bond 0 (absolute_cut nought) (leaning 0x3cc979e8ae802112)) ≡ unturned 50 false 0x3cc979e8ae802112
  pub goes_on_above : seen (cut_bond 0 (absolute_cut nought) (leaning 0x3cc979e8ae802113)) ≡ unturned 50 false 0x3cc979e8ae802113
  -- a value of 1e-30 divides nothing, the next one does
  pub undivided_at : seen (cut_bond 0 (absolute_cut nought) (lone 0x39b4484bfeebc2a0)) ≡ saw 1 0 (0 ∷ []) (0x39b4484bfeebc2a0 ∷ [])
  pub divided_above : seen (cut_bond 0 (absolute_cut nought) (lone 0x39b4484bfeebc2a1)) ≡ saw 1 0 (one ∷ []) (0x39b4484bfeebc2a1 ∷ [])
  -- sums start at +0, and +0 + -0 is +0: in the Gram matrix, in a row times a basis column, in an absorbed core
  pub gram_signs : bits (gram (core_with 1 1 2 (fin false 1 (pos 0) ∷ minus_nought ∷ []))) ≡ one ∷ 0 ∷ 0 ∷ 0 ∷ []
  pub factor_signs : seen (cut_bond 0 (absolute_cut nought) (core_with 1 2 1 (fin false 1 (pos 0) ∷ minus_nought ∷ []))) ≡ saw 1 0 (one ∷ 0 ∷ []) (one ∷ [])
  pub absorbed_signs : bits (absorb 1 (fin false 1 (pos 0) ∷ []) (core_with 1 1 1 (minus_nought ∷ []))) ≡ 0 ∷ []

pub examples : Examples
unfolding add sub mul div neg lt le eq of_bits to_bits root_in whole_root root_of_units root_of pick listed flat first count pairs folded along sum_on sum_to
    sum_rows all_finite first_not_finite stored place entry block tangent_of slope_of cosine_of turned_at eye turn_columns turn_rows cleared turned skipped rotate
    sweep off_sum settled sweeps_from diagonalized singular_of singulars place_in index_at order sorted threshold_of kept_rank dropped_from gram divided left_factor carry_of
    cut_bond absorb walk round_core rounding
examples = record {
  above = refl;
  at_threshold = refl;
  drops_two = refl;
  drops_at_threshold = refl;
  drops_one = refl;
  drops_none = refl;
  drops_zero = refl;
  above_rows = refl;
  one_sweep = refl;
  three_sweeps = refl;
  rounded = refl;
  skips_below = refl;
  turns_at = refl;
  turns_above = refl;
  stops_below = refl;
  goes_on_at = refl;
  goes_on_above = refl;
  undivided_at = refl;
  divided_above = refl;
  gram_signs = refl;
  factor_signs = refl;
  absorbed_signs = refl;
}
