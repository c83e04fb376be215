-- Runs at the edges of their rules: two flaws at once, what others spoilt, every length, unused room, and what a refused fresh run leaves. Definitions only.
use Rattle.std.specs.Prelude.{ℕ, ◌≡◌, true, false, List, [], ◌∷◌, ◌++◌, pos, negsuc, replicate, Float, Err}
use Rattle.std.specs.Float.{fin, inf, nan}
use Rattle.numbers.specs.Arithmetic.{zero64, one64, two64}
use Rattle.answers.specs.declared.Part.TheVariants.{Spectrum}
use Rattle.answers.specs.declared.Refusal.{Refusal}
use Rattle.answers.specs.declared.Refusal.TheVariants.{Reach, Stored}
use Rattle.lists.specs.Floats.{zeros}
use Rattle.shape.specs.declared.Shape.{Shape}
use Rattle.shape.specs.Limits.{scratch_for}
use Rattle.stepform.specs.declared.Axis.{Axis}
use Rattle.cutform.specs.Modes.{absolute_cut}
use Rattle.cutform.specs.declared.Bond.{Bond}
use Rattle.cutform.specs.Bonds.{no_bond}
use Rattle.stepform.specs.declared.Settings.{Settings}
use Rattle.stepform.specs.Zones.{rules}
use Rattle.runform.specs.Slices.{slices}
use Rattle.runform.specs.Kept.{Kept}
use Rattle.runform.specs.Requests.{Request, new_core, new_axis, new_weights}
use Rattle.runform.specs.Call.{RunEnd, fresh_call, replace_by}
use Rattle.runform.specs.Cases.{bond, number, bits, shape_of, axis_of, edged_of, axes, D, weights, settings, told, after, new, Case, case}

abbrev minus_one : Float
minus_one = fin true 1 (pos 0)

abbrev minus_nought : Float
minus_nought = fin true 0 (pos 0)

abbrev still : Axis
still = axis_of zero64 zero64

-- a record of a shift that is too far
abbrev far : Axis
far = axis_of zero64 (number 1 40)

abbrev axes_of : Axis → Axis → List Axis
axes_of x y = x ∷ y ∷ replicate 14 still

abbrev set_of : Float → Float → Float → Settings
set_of tau c eps = record { tau = tau; c = c; cutting = absolute_cut eps }

abbrev three_quarters : Float
three_quarters = fin false 3 (negsuc 1)

abbrev set : Settings
set = settings three_quarters

-- ---- fresh runs over D, lent slices that are not +0
abbrev dust : List Float
dust = replicate (scratch_for 6) one64

abbrev ending : List Axis → Settings → List Float → List Float → RunEnd
ending xs t source points = fresh_call (shape_of 2 1) xs t (slices source points (replicate 6 nan) (replicate 4 nan) (replicate 3 nan)) dust

abbrev freshly : List Axis → Settings → List Float → List Float → List ℕ
freshly xs t source points = told (ending xs t source points)

-- D with x for its last number, which is core 1's
abbrev D-with : Float → List Float
D-with x = number 3 0 ∷ zero64 ∷ zero64 ∷ number 1 2 ∷ one64 ∷ x ∷ []

-- with slices of these lengths
abbrev lent : ℕ → ℕ → ℕ → ℕ → ℕ → ℕ → List ℕ
lent a b c d e f = told (fresh_call (shape_of 2 1) axes set (slices (zeros a) (zeros b) (zeros c) (zeros d) (zeros e)) (zeros f))

-- ---- D as it is kept at eps 0.75, of rank 1; others may have written to any of this
abbrev holding_bonds : List Bond → Shape → List Axis → Settings → List Float → Float → Kept
holding_bonds bonds s xs t points figure = record {
  inputs = record { shape = s; axes = xs; set = t; source = D; weights = points };
  stepped = record {
    bonds = bonds;
    chain = zero64 ∷ one64 ∷ minus_nought ∷ minus_nought ∷ number 1 2 ∷ minus_nought ∷ [];
    carries = zero64 ∷ number 1 2 ∷ minus_nought ∷ minus_nought ∷ [];
  };
  summed = record { sums = two64 ∷ minus_nought ∷ number 1 3 ∷ []; figure = figure };
}

-- 3 was dropped, and others wrote 5
abbrev holding : Shape → List Axis → Settings → List Float → ℕ → Float → Kept
holding s xs t points r figure = holding_bonds (bond r true (number 5 0) ∷ replicate 15 no_bond) s xs t points figure

-- x stands for what the one bond dropped, y behind it
abbrev dropping : Float → Float → Kept
dropping x y = holding_bonds (bond 1 true x ∷ bond 0 false y ∷ replicate 14 no_bond) (shape_of 2 1) axes set weights (number 1 3)

abbrev spoilt : List Axis → Settings → List Float → Kept
spoilt xs t points = holding (shape_of 2 1) xs t points 1 (number 1 3)

abbrev well : Kept
well = spoilt axes set weights

-- what is told of each of the three replacements of zone 1, none of which has a flaw of its own
abbrev each : Kept → List ℕ
each k = after k (new_core 1 new) ++ (after k (new_axis 1 still) ++ after k (new_weights 1 (one64 ∷ [])))

abbrev thrice : ℕ → ℕ → List ℕ
thrice n p = n ∷ p ∷ 0 ∷ n ∷ p ∷ 0 ∷ n ∷ p ∷ 0 ∷ []

-- each of them with a NaN
abbrev each_na_n : Kept → List ℕ
each_na_n k = after k (new_core 1 (nan ∷ one64 ∷ [])) ++ (after k (new_axis 1 (axis_of zero64 nan)) ++ after k (new_weights 1 (nan ∷ [])))

-- of zone 2, which isn't there, and of parts that are too long
abbrev each_beyond : Kept → List ℕ
each_beyond k = after k (new_core 2 (zeros 9)) ++ (after k (new_axis 2 still) ++ after k (new_weights 2 (zeros 9)))

-- with scratch of another length
abbrev short : Request → List ℕ
short q = told (replace_by rules well q (zeros 1))

-- rank 1, x for what was dropped, the figure, chain, carries and sums, with o in unused room
abbrev rank_one : Float → Float → List ℕ
rank_one x o = 1 ∷ bits (x ∷ number 1 3 ∷ zero64 ∷ one64 ∷ o ∷ o ∷ number 1 2 ∷ o ∷ zero64 ∷ number 1 2 ∷ o ∷ o ∷ two64 ∷ o ∷ number 1 3 ∷ [])

-- ---- what fresh runs give
unfoldable pub fresh_edges : List Case
fresh_edges =
    -- 6 before 7
    case (freshly axes (set_of minus_one zero64 zero64) D (one64 ∷ two64 ∷ nan ∷ [])) (6 ∷ 1 ∷ 0 ∷ [])
    ∷ case (freshly (axes_of (axis_of minus_one zero64) still) set (D-with nan) weights) (6 ∷ 1 ∷ 0 ∷ [])
    ∷ case (freshly axes (set_of zero64 nan minus_one) D weights) (6 ∷ 0 ∷ 0 ∷ [])
    -- 7 before 8
    ∷ case (freshly (axes_of far (axis_of minus_one zero64)) set D weights) (7 ∷ 1 ∷ 0 ∷ [])
    -- the slices: source, weights, chain, carries, sums, scratch
    ∷ case (lent 7 4 7 5 4 1) (5 ∷ 0 ∷ 0 ∷ [])
    ∷ case (lent 6 4 7 5 4 1) (5 ∷ 1 ∷ 0 ∷ [])
    ∷ case (lent 6 3 7 5 4 1) (5 ∷ 2 ∷ 0 ∷ [])
    ∷ case (lent 6 3 6 5 4 1) (5 ∷ 3 ∷ 0 ∷ [])
    ∷ case (lent 6 3 6 4 4 1) (5 ∷ 4 ∷ 0 ∷ [])
    ∷ case (lent 6 3 6 4 3 1) (5 ∷ 5 ∷ 0 ∷ [])
    -- unused room is +0, whatever was there
    ∷ case (freshly axes set D weights) (rank_one (number 3 0) zero64)
    ∷ []

-- ---- what replacements give
unfoldable pub replaced_edges : List Case
replaced_edges =
    -- 1, 2 and 3 before 4, 4 before 5
    case (each_beyond (holding (shape_of 0 1) axes set weights 1 (number 1 3))) (thrice 1 0)
    ∷ case (each_beyond (holding (shape_of 2 65) axes set weights 1 (number 1 3))) (thrice 2 1)
    ∷ case (each_beyond (holding (shape_of 2 1) axes set weights 3 (number 1 3))) (thrice 3 0)
    ∷ case (each_beyond well) (thrice 4 0)
    -- scratch comes last
    ∷ case (short (new_core 1 new)) (5 ∷ 6 ∷ 0 ∷ [])
    ∷ case (short (new_axis 1 still)) (5 ∷ 5 ∷ 0 ∷ [])
    ∷ case (short (new_weights 1 (one64 ∷ []))) (5 ∷ 6 ∷ 0 ∷ [])
    -- 6 at the lowest zone, be it the new part's or not
    ∷ case (each_na_n (spoilt axes set (one64 ∷ nan ∷ one64 ∷ []))) (thrice 6 0)
    ∷ case (after (spoilt axes set (one64 ∷ two64 ∷ nan ∷ [])) (new_core 0 (replicate 4 nan))) (6 ∷ 0 ∷ 0 ∷ [])
    -- 6 before 7: of the settings, of another axis, and of the new record
    ∷ case (each_na_n (spoilt axes (set_of one64 zero64 minus_one) weights)) (thrice 6 1)
    ∷ case (each_na_n (spoilt (axes_of (axis_of minus_one zero64) still) set weights)) (thrice 6 1)
    ∷ case (after (spoilt axes set (one64 ∷ two64 ∷ nan ∷ [])) (new_axis 0 (axis_of minus_one zero64))) (6 ∷ 1 ∷ 0 ∷ [])
    -- what is held is asked too: the settings, the figure, the records, also one that is to be replaced
    ∷ case (each (spoilt axes (set_of nan zero64 zero64) weights)) (thrice 6 0)
    ∷ case (each (spoilt axes (set_of one64 nan zero64) weights)) (thrice 6 0)
    ∷ case (each (spoilt axes (set_of one64 zero64 nan) weights)) (thrice 6 0)
    ∷ case (each (holding (shape_of 2 1) axes set weights 1 nan)) (thrice 6 0)
    ∷ case (each (spoilt (axes_of still (axis_of nan zero64)) set weights)) (thrice 6 1)
    ∷ case (each (spoilt axes (set_of minus_one zero64 zero64) weights)) (thrice 7 0)
    ∷ case (each (spoilt axes (set_of one64 zero64 minus_one) weights)) (thrice 7 0)
    ∷ case (each (spoilt (axes_of (axis_of minus_one zero64) still) set weights)) (thrice 7 0)
    ∷ case (each (spoilt (axes_of still (axis_of minus_one zero64)) set weights)) (thrice 7 1)
    -- what the bond dropped too, but not what stands behind the last bond
    ∷ case (each (dropping nan zero64)) (thrice 6 0)
    ∷ case (each (dropping (inf false) zero64)) (thrice 6 0)
    ∷ case (each (dropping (inf true) zero64)) (thrice 6 0)
    ∷ case (after (dropping minus_one nan) (new_weights 1 (one64 ∷ []))) (rank_one minus_one minus_nought)
    -- unused room of what is made anew is +0, and what was dropped is told anew
    ∷ case (after well (new_core 0 (number 3 0 ∷ zero64 ∷ zero64 ∷ number 1 2 ∷ []))) (rank_one (number 3 0) zero64)
    -- new weights make no shift: never 8, which a new core of the same zone gives
    ∷ case (after (spoilt (axes_of far far) set weights) (new_core 0 (zeros 4))) (8 ∷ 0 ∷ 0 ∷ [])
    ∷ case (after (spoilt (axes_of far far) set weights) (new_weights 1 (one64 ∷ []))) (rank_one (number 5 0) minus_nought)
    ∷ []

-- ---- what runs give of a boundary that isn't known
unfoldable pub boundary_edges : List Case
boundary_edges =
    -- a fresh run: beside an a below zero, at the lowest
    case (freshly (axes_of still (edged_of 2 zero64)) set D weights) (7 ∷ 1 ∷ 0 ∷ [])
    ∷ case (freshly (axes_of (edged_of 2 zero64) (axis_of minus_one zero64)) set D weights) (7 ∷ 0 ∷ 0 ∷ [])
    -- a held record, also one that is to be replaced
    ∷ case (each (spoilt (axes_of (edged_of 2 zero64) still) set weights)) (thrice 7 0)
    ∷ case (each (spoilt (axes_of still (edged_of 2 zero64)) set weights)) (thrice 7 1)
    -- a new record: behind 6, and before 8
    ∷ case (after (spoilt axes set (one64 ∷ two64 ∷ nan ∷ [])) (new_axis 0 (edged_of 2 zero64))) (6 ∷ 1 ∷ 0 ∷ [])
    ∷ case (after (spoilt (axes_of far still) set weights) (new_axis 1 (edged_of 2 (number 1 40)))) (7 ∷ 1 ∷ 0 ∷ [])
    ∷ []

-- ---- what runs give of the mode
abbrev set_in : ℕ → Float → Settings
set_in mode eps = record { tau = one64; c = zero64; cutting = record { eps = eps; mode = mode } }

-- 2^-110 times m
abbrev rare : ℕ → Float
rare m = fin false m (negsuc 109)

-- core 0 of D, times 2^-110
abbrev rare_core : List Float
rare_core = rare 3 ∷ zero64 ∷ zero64 ∷ rare 4 ∷ []

-- what is kept then at eps 0.75, where x and y stand in core 0 and among the sums
abbrev rare_run : Float → Float → Float → List ℕ
rare_run x y figure =
    let o = zero64 in
    1 ∷ bits (rare 3 ∷ figure ∷ o ∷ x ∷ o ∷ o ∷ rare 4 ∷ o ∷ o ∷ rare 4 ∷ o ∷ o ∷ y ∷ o ∷ figure ∷ [])

unfoldable pub mode_edges : List Case
mode_edges =
    -- one that isn't known: at 0, before an axis and before 8, behind 6
    case (freshly (axes_of still (axis_of minus_one zero64)) (set_in 2 zero64) D weights) (7 ∷ 0 ∷ 0 ∷ [])
    ∷ case (freshly (axes_of far still) (set_in 2 zero64) D weights) (7 ∷ 0 ∷ 0 ∷ [])
    ∷ case (freshly axes (set_in 2 nan) D weights) (6 ∷ 0 ∷ 0 ∷ [])
    ∷ case (freshly axes (set_in 2 zero64) (D-with nan) weights) (6 ∷ 1 ∷ 0 ∷ [])
    -- a held one, for every replacement, of weights too
    ∷ case (each (spoilt axes (set_in 2 zero64) weights)) (thrice 7 0)
    ∷ case (each_na_n (spoilt axes (set_in 2 zero64) weights)) (thrice 6 1)
    -- rare events have a figure in scaled mode, and none in absolute mode; a new core is cut in the mode that is held
    ∷ case (freshly axes (set_in 1 three_quarters) (rare_core ++ (one64 ∷ one64 ∷ [])) weights) (rare_run one64 two64 (rare 8))
    ∷ case (freshly axes (set_in 0 three_quarters) (rare_core ++ (one64 ∷ one64 ∷ [])) weights) (rare_run zero64 zero64 zero64)
    ∷ case (after (spoilt axes (set_in 1 three_quarters) weights) (new_core 0 rare_core)) (rare_run one64 two64 (rare 8))
    ∷ case (after (spoilt axes (set_in 0 three_quarters) weights) (new_core 0 rare_core)) (rare_run zero64 zero64 zero64)
    ∷ []

-- ---- a refused fresh run: the record has what was given and zeros, the slices are as they were
abbrev LeavesNothing : Refusal → List Axis → Settings → List Float → List Float → Type 0
LeavesNothing r xs t source after =
    ending xs t source weights
    ≡ record {
      result = record {
        verdict = Err r;
        run = record {
          shape = shape_of 2 1;
          axes = xs;
          set = t;
          bonds = replicate 16 no_bond;
          figure = zero64;
        };
      };
      slices = slices source weights (replicate 6 nan) (replicate 4 nan) (replicate 3 nan);
      scratch = after;
    }

-- the square of its fourth number is not finite
abbrev huge : List Float
huge = one64 ∷ one64 ∷ one64 ∷ number 1 600 ∷ one64 ∷ one64 ∷ []

-- by a check, which leaves scratch as it was, and in the work, which leaves it all +0
abbrev pub RefusedFresh : Type 0
RefusedFresh =
    LeavesNothing (Reach 1) (axes_of still far) (set_of one64 two64 minus_nought) D dust
    × LeavesNothing (Stored Spectrum 0 3) (axes_of still (axis_of zero64 one64)) (set_of one64 zero64 one64) huge (zeros (scratch_for 6))
