-- Small runs, as one list: what the calls give, and what is written here. Definitions only.
-- D is the chain of the scope's hand sums, with weights (1,2) and (1); nothing moves but by the new axis record.
use Rattle.std.specs.Prelude.{ℕ, ◌≡◌, Bool, true, false, List, [], ◌∷◌, ◌++◌, map, pos, negsuc, replicate, Float, Ok, Err}
use Rattle.std.specs.Float.{fin, nan, binary64}
use Rattle.std.specs.Float.Ieee.{to_bits}
use Rattle.numbers.specs.Arithmetic.{zero64, one64, two64}
use Rattle.answers.specs.Outcome.{Check}
use Rattle.answers.specs.Table.{told_of}
use Rattle.lists.specs.Floats.{zeros}
use Rattle.shape.specs.declared.Shape.{Shape}
use Rattle.shape.specs.Limits.{scratch_for}
use Rattle.stepform.specs.declared.Axis.{Axis}
use Rattle.stepform.specs.Boundaries.{periodic, reflecting}
use Rattle.cutform.specs.Modes.{absolute_cut}
use Rattle.cutform.specs.declared.Bond.{Bond}
use Rattle.cutform.specs.Bonds.{no_bond}
use Rattle.cutform.specs.Keeping.{rank_at, dropped_among}
use Rattle.stepform.specs.declared.Settings.{Settings}
use Rattle.stepform.specs.Zones.{rules}
use Rattle.runform.specs.Slices.{slices}
use Rattle.runform.specs.Kept.{Kept}
use Rattle.runform.specs.Requests.{Request, new_core, new_axis, new_weights}
use Rattle.runform.specs.Call.{RunEnd, fresh_call, replace_by}
use Rattle.runform.specs.Sequence.{kept_after}

-- m * 2 ^ e
abbrev pub number : ℕ → ℕ → Float
number m e = fin false m (pos e)

abbrev pub bits : List Float → List ℕ
bits xs = map (to_bits binary64) xs

-- ---- D
abbrev pub shape_of : ℕ → ℕ → Shape
shape_of d n = record { d = d; left = 1 ∷ 2 ∷ replicate 14 0; n = 2 ∷ n ∷ replicate 14 0; right = 2 ∷ 1 ∷ replicate 14 0 }

abbrev pub axis_of : Float → Float → Axis
axis_of a b = record { a = a; b = b; xmin = zero64; xmax = one64; boundary = periodic }

-- of another boundary
abbrev pub edged_of : ℕ → Float → Axis
edged_of boundary b = record { a = zero64; b = b; xmin = zero64; xmax = one64; boundary = boundary }

abbrev pub axes : List Axis
axes = replicate 16 (axis_of zero64 zero64)

-- a bond of rank r that took no sweep and dropped x
abbrev pub bond : ℕ → Bool → Float → Bond
bond r settled x = record { rank = r; sweeps = 0; settled = settled; dropped = x }

abbrev pub D : List Float
D = number 3 0 ∷ zero64 ∷ zero64 ∷ number 1 2 ∷ one64 ∷ one64 ∷ []

abbrev pub weights : List Float
weights = one64 ∷ two64 ∷ one64 ∷ []

abbrev pub settings : Float → Settings
settings eps = record { tau = one64; c = zero64; cutting = absolute_cut eps }

abbrev scratch : List Float
scratch = zeros (scratch_for 6)

-- ---- what a call leaves: what is told of a refusal, or the first rank, what its bond dropped, the figure, the chain, the carries and the sums
abbrev pub shown : Kept → Check → List ℕ
shown k (Ok _) =
    rank_at k.stepped 0 ∷ bits (dropped_among k.stepped.bonds 0 ∷ k.summed.figure ∷ (k.stepped.chain ++ (k.stepped.carries ++ k.summed.sums)))
shown k (Err r) = told_of (Err r)

abbrev pub told : RunEnd → List ℕ
told e = shown (kept_after e) e.result.verdict

abbrev freshly : Shape → RunEnd
freshly s = fresh_call s axes (settings zero64) (slices D weights (zeros 6) (zeros 4) (zeros 3)) scratch

abbrev pub after : Kept → Request → List ℕ
after k q = told (replace_by rules k q scratch)

-- D kept, of rank 2: whatever becomes of zone 1's second number, of the weights' sums and of the figure
abbrev kept : Kept
kept = kept_after (freshly (shape_of 2 1))

abbrev holding : Float → Float → Float → Float → List ℕ
holding x a b figure =
    2 ∷ bits (zero64 ∷ figure ∷ zero64 ∷ one64 ∷ one64 ∷ zero64 ∷ number 1 2 ∷ x ∷ zero64 ∷ number 1 2 ∷ number 3 0 ∷ zero64 ∷ a ∷ b ∷ figure ∷ [])

-- D with a zone 1 of two points: of no axis that moves, and what a new record of axis 1 leaves: core 1's numbers, and the figure
abbrev wide : Kept
wide =
    let source = number 3 0 ∷ zero64 ∷ zero64 ∷ number 1 2 ∷ one64 ∷ number 3 0 ∷ number 5 0 ∷ number 7 0 ∷ [] in
    let points = one64 ∷ two64 ∷ one64 ∷ two64 ∷ [] in
    kept_after (fresh_call (shape_of 2 2) axes (settings zero64) (slices source points (zeros 8) (zeros 4) (zeros 3)) (zeros (scratch_for 8)))

abbrev moved : Axis → List ℕ
moved a = told (replace_by rules wide (new_axis 1 a) (zeros (scratch_for 8)))

abbrev widely : Float → Float → Float → Float → Float → List ℕ
widely a b c d figure =
    2 ∷ bits (zero64 ∷ figure ∷ zero64 ∷ one64 ∷ one64 ∷ zero64 ∷ a ∷ b ∷ c ∷ d ∷ zero64 ∷ number 1 2 ∷ number 3 0 ∷ zero64 ∷ two64 ∷ one64 ∷ figure ∷ [])

-- D as it is kept at eps 0.75, of rank 1, but as others may have left it: with another rank, 5 for the dropped 3, x in a carry's used room, y in unused room
abbrev left : List Axis → ℕ → Float → Float → Kept
left xs r x y = record {
  inputs = record { shape = shape_of 2 1; axes = xs; set = settings (fin false 3 (negsuc 1)); source = D; weights = weights };
  stepped = record {
    bonds = bond r false (number 5 0) ∷ replicate 15 no_bond;
    chain = zero64 ∷ one64 ∷ y ∷ y ∷ number 1 2 ∷ y ∷ [];
    carries = zero64 ∷ x ∷ y ∷ y ∷ [];
  };
  summed = record { sums = two64 ∷ y ∷ number 1 3 ∷ []; figure = number 1 3 };
}

-- what a new core 1 leaves there: its own slot's unused room is +0
abbrev leaving : Float → List ℕ
leaving y = 1 ∷ bits (number 5 0 ∷ number 1 3 ∷ zero64 ∷ one64 ∷ y ∷ y ∷ number 1 2 ∷ zero64 ∷ zero64 ∷ number 1 2 ∷ y ∷ y ∷ two64 ∷ y ∷ number 1 3 ∷ [])

pub record Case : Type 0 where
  pub got : List ℕ
  pub want : List ℕ

abbrev pub case : List ℕ → List ℕ → Case
case g w = record { got = g; want = w }

abbrev pub new : List Float
new = two64 ∷ one64 ∷ []

unfoldable pub cases : List Case
cases =
    -- a fresh run, and each replacement
    case (told (freshly (shape_of 2 1))) (holding (number 3 0) two64 one64 (number 11 0))
    ∷ case (after kept (new_core 1 new)) (holding (number 3 1) two64 one64 (number 7 1))
    ∷ case (after kept (new_weights 0 (one64 ∷ one64 ∷ []))) (holding (number 3 0) one64 one64 (number 7 0))
    -- core 1 is carried over by 0, 4, 3, 0; the record b = 1 moves it by one of its two points, so that 1, 3 and 5, 7 become 2, 2 and 6, 6
    ∷ case (shown wide (Ok tt)) (widely (number 20 0) (number 28 0) (number 3 0) (number 9 0) (number 173 0))
    ∷ case (moved (axis_of zero64 one64)) (widely (number 24 0) (number 24 0) (number 6 0) (number 6 0) (number 162 0))
    -- where its axis reflects, they become 1.5, 2.5 and 5.5, 6.5
    ∷ case (moved (edged_of reflecting one64)) (widely (number 22 0) (number 26 0) (fin false 9 (negsuc 0))
    (fin false 15 (negsuc 0)) (fin false 335 (negsuc 0)))
    -- each refusal
    ∷ case (told (freshly (shape_of 0 1))) (1 ∷ 0 ∷ 0 ∷ [])
    ∷ case (told (freshly (shape_of 2 65))) (2 ∷ 1 ∷ 0 ∷ [])
    ∷ case (after (left axes 3 (number 1 2) zero64) (new_core 1 new)) (3 ∷ 0 ∷ 0 ∷ [])
    ∷ case (after kept (new_core 2 new)) (4 ∷ 0 ∷ 0 ∷ [])
    ∷ case (after kept (new_core 1 (two64 ∷ []))) (5 ∷ 5 ∷ 0 ∷ [])
    ∷ case (after kept (new_weights 1 (nan ∷ []))) (6 ∷ 1 ∷ 0 ∷ [])
    ∷ case (after kept (new_axis 1 (axis_of (fin true 1 (pos 0)) zero64))) (7 ∷ 1 ∷ 0 ∷ [])
    ∷ case (after kept (new_axis 1 (edged_of 2 zero64))) (7 ∷ 1 ∷ 0 ∷ [])
    ∷ case (after kept (new_axis 0 (axis_of zero64 (number 1 40)))) (8 ∷ 0 ∷ 0 ∷ [])
    -- a wild forecast: its own Gram matrix, or the core that takes in what is handed on, which is 4, 3; and a wild weight
    ∷ case (after kept (new_core 0 (one64 ∷ one64 ∷ one64 ∷ number 1 600 ∷ []))) (12 ∷ 0 ∷ 3 ∷ [])
    ∷ case (after kept (new_core 1 (number 1 1023 ∷ one64 ∷ []))) (13 ∷ 1 ∷ 1 ∷ [])
    ∷ case (after kept (new_weights 1 (number 1 1022 ∷ []))) (14 ∷ 1 ∷ 0 ∷ [])
    -- a run that others wrote to: 6 in used room, not in unused room; 8 of a shift that is made, not of zone 0's
    ∷ case (after (left axes 1 nan zero64) (new_core 1 new)) (6 ∷ 0 ∷ 0 ∷ [])
    ∷ case (after (left axes 1 (number 1 2) nan) (new_core 1 new)) (leaving nan)
    ∷ case (after (left (axis_of zero64 (number 1 40) ∷ axes) 1 (number 1 2) zero64) (new_core 1 new)) (leaving zero64)
    ∷ []

abbrev pub AllRight : List Case → Type 0
AllRight [] = Unit {0}
AllRight (c ∷ cs) = (c.got ≡ c.want) × AllRight cs
