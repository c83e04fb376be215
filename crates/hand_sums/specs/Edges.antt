-- Calls with two things wrong at once, as one list: which refusal is told; and slabs whose only terms are -0. Definitions only.
use Rattle.std.specs.Prelude.{ℕ, true, false, List, [], ◌∷◌, pos, replicate, Float}
use Rattle.std.specs.Float.{fin, nan}
use Rattle.answers.specs.Outcome.{verdict_of}
use Rattle.answers.specs.Table.{told_of}
use Rattle.numbers.specs.Arithmetic.{zero64, one64}
use Rattle.lists.specs.Floats.{zeros}
use Rattle.shape.specs.declared.Shape.{Shape}
use Rattle.shape.specs.Limits.{scratch_for}
use Rattle.shape.specs.Shapes.{chain_ok}
use Rattle.shape.specs.Cores.{core_with}
use Rattle.cutform.specs.declared.Cutting.{Cutting}
use Rattle.cutform.specs.Modes.{absolute_cut}
use Rattle.cutform.specs.Call.{round_call}
use Rattle.stepform.specs.declared.Axis.{Axis}
use Rattle.stepform.specs.Boundaries.{periodic}
use Rattle.pairform.specs.Slabs.{slab}
use Rattle.sumform.specs.Start.{start_call}
use Rattle.stepform.specs.Call.{step_call, evolve_call}
use Rattle.hand_sums.specs.Cases.{bits, D-shape, D-with, Case, case}

abbrev minus_one : Float
minus_one = fin true 1 (pos 0)

abbrev minus_nought : Float
minus_nought = fin true 0 (pos 0)

-- ---- three cores of one point each, and these ranks
abbrev three_cores : ℕ → ℕ → ℕ → ℕ → ℕ → ℕ → List ℕ
three_cores l0 r0 l1 r1 l2 r2 =
    let none : List ℕ = replicate 13 0 in
    told_of ((chain_ok (record { d = 3; left = l0 ∷ l1 ∷ l2 ∷ none; n = 1 ∷ 1 ∷ 1 ∷ none; right = r0 ∷ r1 ∷ r2 ∷ none })))

-- ---- D with another last number, and with these settings
abbrev axis : Float → Float → Axis
axis a b = record { a = a; b = b; xmin = zero64; xmax = one64; boundary = periodic }

-- of another boundary
abbrev edged : ℕ → Float → Axis
edged boundary b = record { a = zero64; b = b; xmin = zero64; xmax = one64; boundary = boundary }

abbrev still : Axis
still = axis zero64 zero64

abbrev stepped : Float → Float → Float → Axis → Axis → Float → List ℕ
stepped tau c eps a0 a1 x =
    told_of (step_call (record { tau = tau; c = c; cutting = absolute_cut eps }) D-shape (a0 ∷ a1 ∷ []) (D-with x) (zeros (scratch_for 6))).result.verdict

abbrev evolved : Float → ℕ → Float → List ℕ
evolved final steps x =
    told_of (evolve_call final steps zero64 (absolute_cut zero64) D-shape (still ∷ still ∷ []) (D-with x) (zeros (scratch_for 6))).result.verdict

-- in another mode, and with these axes: a step, steps one after another, and a rounding
abbrev stepped_in : ℕ → Float → Axis → Axis → Float → List ℕ
stepped_in mode eps a0 a1 x =
    let cutting : Cutting = record { eps = eps; mode = mode } in
    told_of (step_call (record { tau = one64; c = zero64; cutting = cutting }) D-shape (a0 ∷ a1 ∷ []) (D-with x) (zeros (scratch_for 6))).result.verdict

abbrev evolved_in : ℕ → Axis → Axis → Float → List ℕ
evolved_in mode a0 a1 x =
    told_of (evolve_call one64 1 zero64 (record { eps = zero64; mode = mode }) D-shape (a0 ∷ a1 ∷ []) (D-with x) (zeros (scratch_for 6))).result.verdict

abbrev rounded_in : ℕ → Float → ℕ → List ℕ
rounded_in mode x scratch = told_of (round_call D-shape (record { eps = zero64; mode = mode }) (D-with x) (zeros scratch)).result.verdict

-- ---- the start of two axes, of one and two points
abbrev started : List Float → List Float → List ℕ
started vectors chain =
    let s : Shape = record { d = 2; left = replicate 16 0; n = 1 ∷ 2 ∷ replicate 14 0; right = replicate 16 0 } in
    told_of (verdict_of (start_call s vectors chain).result)

-- the slab of the cores (1, 1, 2) and (2, 1, 1)
abbrev slab_of : List Float → List Float → List ℕ
slab_of l r = bits (slab (core_with 1 1 2 l) (core_with 2 1 1 r))

-- the number of a case is that of the refusal that it tells, 0 where a call is not refused
unfoldable pub edges : List Case
edges =
    -- 3: the left end at core 0, a bond at its left core, the right end at the last core; the lowest of two. A size comes first
    case 3 (three_cores 2 1 1 2 3 1) (3 ∷ 0 ∷ 0 ∷ [])
    ∷ case 3 (three_cores 2 1 1 1 1 2) (3 ∷ 0 ∷ 0 ∷ [])
    ∷ case 3 (three_cores 1 1 2 1 1 2) (3 ∷ 0 ∷ 0 ∷ [])
    ∷ case 3 (three_cores 1 1 1 1 2 2) (3 ∷ 1 ∷ 0 ∷ [])
    ∷ case 3 (three_cores 1 1 1 1 1 2) (3 ∷ 2 ∷ 0 ∷ [])
    ∷ case 2 (three_cores 2 1 1 1 9 1) (2 ∷ 2 ∷ 0 ∷ [])
    -- 6 before 7: a NaN in core 1, in axis 1 and in a lone setting, each beside a setting below zero
    ∷ case 6 (stepped minus_one zero64 zero64 still still nan) (6 ∷ 1 ∷ 0 ∷ [])
    ∷ case 6 (stepped one64 zero64 minus_one still (axis zero64 nan) one64) (6 ∷ 1 ∷ 0 ∷ [])
    ∷ case 6 (stepped minus_one nan zero64 still still one64) (6 ∷ 0 ∷ 0 ∷ [])
    ∷ case 6 (stepped one64 zero64 zero64 (axis minus_one zero64) still nan) (6 ∷ 1 ∷ 0 ∷ [])
    ∷ case 6 (evolved one64 0 nan) (6 ∷ 1 ∷ 0 ∷ [])
    ∷ case 6 (evolved minus_one 1 nan) (6 ∷ 1 ∷ 0 ∷ [])
    -- 7: a lone setting before an axis; before 8
    ∷ case 7 (stepped one64 zero64 minus_one still (axis minus_one zero64) one64) (7 ∷ 0 ∷ 0 ∷ [])
    ∷ case 7 (stepped one64 zero64 zero64 (axis zero64 (fin false 1 (pos 40))) (axis minus_one zero64) one64) (7 ∷ 1 ∷ 0 ∷ [])
    -- a boundary that isn't known is 7 at its axis, beside an a below zero at the other, lowest first; behind 6, and before 8
    ∷ case 7 (stepped one64 zero64 zero64 still (edged 2 zero64) one64) (7 ∷ 1 ∷ 0 ∷ [])
    ∷ case 7 (stepped one64 zero64 zero64 (edged 2 zero64) (axis minus_one zero64) one64) (7 ∷ 0 ∷ 0 ∷ [])
    ∷ case 7 (stepped one64 zero64 zero64 (axis minus_one zero64) (edged 2 zero64) one64) (7 ∷ 0 ∷ 0 ∷ [])
    ∷ case 7 (stepped one64 zero64 minus_one still (edged 2 zero64) one64) (7 ∷ 0 ∷ 0 ∷ [])
    ∷ case 6 (stepped one64 zero64 zero64 (edged 2 zero64) still nan) (6 ∷ 1 ∷ 0 ∷ [])
    ∷ case 7 (stepped one64 zero64 zero64 (axis zero64 (fin false 1 (pos 40))) (edged 2 (fin false 1 (pos 40))) one64) (7 ∷ 1 ∷ 0 ∷ [])
    -- 5: a start's vectors are slice 0, its chain slice 1
    ∷ case 5 (started (zeros 2) (zeros 3)) (5 ∷ 0 ∷ 0 ∷ [])
    ∷ case 5 (started (zeros 3) (zeros 2)) (5 ∷ 1 ∷ 0 ∷ [])
    ∷ case 5 (started (nan ∷ []) (zeros 2)) (5 ∷ 0 ∷ 0 ∷ [])
    ∷ case 6 (started (zero64 ∷ zero64 ∷ nan ∷ []) (zeros 3)) (6 ∷ 1 ∷ 0 ∷ [])
    -- a slab's sums start at +0, and +0 + -0 is +0; so they stay where every term is skipped
    ∷ case 0 (slab_of (one64 ∷ one64 ∷ []) (minus_nought ∷ minus_nought ∷ [])) (0 ∷ [])
    ∷ case 0 (slab_of (zero64 ∷ minus_nought ∷ []) (one64 ∷ one64 ∷ [])) (0 ∷ [])
    ∷ []

-- a mode that isn't known is 7 at 0, before an axis and before 8; behind 6 and 5
unfoldable pub unknown_modes : List Case
unknown_modes =
    case 7 (stepped_in 2 zero64 still (axis minus_one zero64) one64) (7 ∷ 0 ∷ 0 ∷ [])
    ∷ case 7 (stepped_in 2 zero64 (axis zero64 (fin false 1 (pos 40))) still one64) (7 ∷ 0 ∷ 0 ∷ [])
    ∷ case 6 (stepped_in 2 nan still still one64) (6 ∷ 0 ∷ 0 ∷ [])
    ∷ case 6 (stepped_in 2 zero64 still still nan) (6 ∷ 1 ∷ 0 ∷ [])
    ∷ case 7 (evolved_in 2 still (axis minus_one zero64) one64) (7 ∷ 0 ∷ 0 ∷ [])
    ∷ case 6 (evolved_in 2 still still nan) (6 ∷ 1 ∷ 0 ∷ [])
    ∷ case 7 (rounded_in 2 one64 (scratch_for 6)) (7 ∷ 0 ∷ 0 ∷ [])
    ∷ case 6 (rounded_in 2 nan (scratch_for 6)) (6 ∷ 1 ∷ 0 ∷ [])
    ∷ case 5 (rounded_in 2 one64 (scratch_for 5)) (5 ∷ 1 ∷ 0 ∷ [])
    ∷ []
