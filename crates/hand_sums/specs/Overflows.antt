-- Which part overflowed, as one list: calls that are refused in the work, and what is told of each. Definitions only.
use Rattle.std.specs.Prelude.{ℕ, true, List, [], ◌∷◌, ◌++◌, pos, negsuc, length, replicate, Float}
use Rattle.std.specs.Float.{fin}
use Rattle.answers.specs.Outcome.{verdict_of}
use Rattle.answers.specs.Table.{told_of}
use Rattle.numbers.specs.Arithmetic.{zero64, one64}
use Rattle.lists.specs.Floats.{zeros}
use Rattle.shape.specs.declared.Shape.{Shape}
use Rattle.shape.specs.Limits.{scratch_for}
use Rattle.stepform.specs.declared.Axis.{Axis}
use Rattle.stepform.specs.Boundaries.{periodic}
use Rattle.cutform.specs.Modes.{absolute_cut}
use Rattle.cutform.specs.Call.{round_call}
use Rattle.sumform.specs.Call.{inner_call}
use Rattle.stepform.specs.declared.Settings.{Settings}
use Rattle.stepform.specs.Call.{step_call}
use Rattle.hand_sums.specs.Cases.{power, two_cores, Case, case}

-- 2 ^ e
abbrev huge : ℕ → Float
huge e = power 1 (pos e)

abbrev three_cores : ℕ → ℕ → ℕ → Shape
three_cores r n q = record { d = 3; left = 1 ∷ r ∷ q ∷ replicate 13 0; n = 1 ∷ n ∷ 1 ∷ replicate 13 0; right = r ∷ q ∷ 1 ∷ replicate 13 0 }

abbrev rounded : Shape → List Float → List ℕ
rounded s l = told_of (round_call s (absolute_cut zero64) l (zeros (scratch_for (length l)))).result.verdict

-- an axis of nine points a unit apart, moved by b
abbrev moved : Float → Axis
moved b = record { a = zero64; b = b; xmin = zero64; xmax = power 1 (pos 3); boundary = periodic }

-- two cores, of which the second moves by b; core 0 is multiplied by 1 + c
abbrev stepped : Shape → Float → Float → List Float → List ℕ
stepped s b c l =
    let settings : Settings = record { tau = one64; c = c; cutting = absolute_cut zero64 } in
    told_of (step_call settings s (moved zero64 ∷ moved b ∷ []) l (zeros (scratch_for (length l)))).result.verdict

abbrev figured : Shape → List Float → List Float → List ℕ
figured s l weights = told_of (verdict_of (inner_call s l weights))

-- nine numbers of 15/16 of 2 ^ 1024 in size, of such signs that moved by 2.5 the middle one alone becomes 1.125 of that
abbrev steep : List Float
steep =
    let up = power 15 (pos 1020) in
    let down = fin true 15 (pos 1020) in
    down ∷ up ∷ up ∷ down ∷ up ∷ down ∷ up ∷ up ∷ down ∷ []

abbrev far : Float
far = power 5 (negsuc 0)

-- the number of a case is that of the refusal that it tells
unfoldable pub overflows : List Case
overflows =
    -- a shift, at its axis and the entry's place in its core: the fifth point of the second row of core (2, 9, 1)
    case 9 (stepped (two_cores 1 2 9) far zero64 (one64 ∷ one64 ∷ (zeros 9 ++ steep))) (9 ∷ 1 ∷ 13 ∷ [])
    -- it comes before the scaling of core 0, and before its Gram matrix
    ∷ case 9 (stepped (two_cores 1 1 9) far one64 (huge 1023 ∷ steep)) (9 ∷ 1 ∷ 4 ∷ [])
    -- the scaling, at core 0 and its first number that overflows; it comes before the Gram matrix
    ∷ case 9 (stepped (two_cores 4 1 1) zero64 one64 (one64 ∷ huge 1022 ∷ huge 1023 ∷ huge 1023 ∷ one64 ∷ [])) (9 ∷ 0 ∷ 2 ∷ [])
    -- a Gram matrix, row after row: of core 0, and of core 1, which took in a carry of 1
    ∷ case 12 (rounded (two_cores 1 2 1) (one64 ∷ huge 600 ∷ one64 ∷ one64 ∷ [])) (12 ∷ 0 ∷ 3 ∷ [])
    ∷ case 12 (rounded (three_cores 1 1 2) (one64 ∷ huge 524 ∷ huge 500 ∷ one64 ∷ one64 ∷ [])) (12 ∷ 1 ∷ 0 ∷ [])
    -- the matrix after a rotation: the Gram matrix has 9 * 2 ^ 1020 in all four places, turned it has 0 and twice that
    ∷ case 12 (rounded (two_cores 1 2 1) (power 3 (pos 510) ∷ power 3 (pos 510) ∷ one64 ∷ one64 ∷ [])) (12 ∷ 0 ∷ 3 ∷ [])
    -- an absorbed core is itself: core 0 hands on 2 ^ 500; it comes before that core's own Gram matrix, and after the one of core 0
    ∷ case 13 (rounded (two_cores 1 1 3) (huge 500 ∷ one64 ∷ huge 524 ∷ huge 523 ∷ [])) (13 ∷ 1 ∷ 1 ∷ [])
    ∷ case 13 (rounded (three_cores 1 2 2) (huge 500 ∷ one64 ∷ one64 ∷ one64 ∷ huge 600 ∷ one64 ∷ one64 ∷ [])) (13 ∷ 1 ∷ 3 ∷ [])
    ∷ case 12 (rounded (two_cores 1 1 1) (huge 600 ∷ huge 600 ∷ [])) (12 ∷ 0 ∷ 0 ∷ [])
    -- a partial sum, at its axis and the index in the sum; the first axis comes first
    ∷ case 14 (figured (two_cores 1 2 1) (one64 ∷ huge 1000 ∷ one64 ∷ one64 ∷ []) (huge 24 ∷ one64 ∷ [])) (14 ∷ 0 ∷ 1 ∷ [])
    ∷ case 14 (figured (two_cores 1 2 1) (one64 ∷ huge 1000 ∷ one64 ∷ one64 ∷ []) (one64 ∷ huge 24 ∷ [])) (14 ∷ 1 ∷ 0 ∷ [])
    ∷ case 14 (figured (two_cores 1 2 1) (huge 1000 ∷ huge 1000 ∷ one64 ∷ one64 ∷ []) (huge 24 ∷ huge 24 ∷ [])) (14 ∷ 0 ∷ 0 ∷ [])
    ∷ []
