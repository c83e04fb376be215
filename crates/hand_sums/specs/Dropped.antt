-- What calls answer of each bond's dropped value, as one list: worked out from the columns of the cores, which stand at right angles. Definitions only.
use Rattle.std.specs.Prelude.{ℕ, true, List, [], ◌∷◌, ◌++◌, map, pos, negsuc, length, take, replicate, Float}
use Rattle.std.specs.Float.{fin}
use Rattle.answers.specs.Table.{told_of}
use Rattle.numbers.specs.Arithmetic.{zero64, one64, two64, half64, quarter64}
use Rattle.lists.specs.Floats.{zeros}
use Rattle.shape.specs.declared.Shape.{Shape}
use Rattle.shape.specs.Limits.{scratch_for}
use Rattle.stepform.specs.declared.Axis.{Axis}
use Rattle.stepform.specs.Boundaries.{periodic}
use Rattle.cutform.specs.Modes.{absolute_cut}
use Rattle.cutform.specs.declared.Rounded.{Rounded}
use Rattle.cutform.specs.declared.Bond.{Bond}
use Rattle.cutform.specs.Call.{round_call}
use Rattle.stepform.specs.declared.Settings.{Settings}
use Rattle.stepform.specs.Call.{step_call, evolve_call}
use Rattle.hand_sums.specs.Cases.{bits, power, whole, two_cores, D-shape, D-with, Case, case}

-- what is told of a refusal, the ranks of the first three bonds, and what they dropped
abbrev said : Rounded → List ℕ
said r = told_of r.verdict ++ (take 3 (map (λ (b : Bond). b.rank) r.bonds) ++ bits (take 3 (map (λ (b : Bond). b.dropped) r.bonds)))

abbrev three_quarters : Float
three_quarters = power 3 (negsuc 1)

-- ---- D, with x for its last number
abbrev rounded : Float → Float → List ℕ
rounded eps x = said (round_call D-shape (absolute_cut eps) (D-with x) (zeros (scratch_for 6))).result

-- and a core between its two, which what is kept of the first makes 12 and 16 on a diagonal
abbrev D-between : List ℕ
D-between =
    let s : Shape = record { d = 3; left = 1 ∷ 2 ∷ 2 ∷ replicate 13 0; n = 2 ∷ 2 ∷ 1 ∷ replicate 13 0; right = 2 ∷ 2 ∷ 1 ∷ replicate 13 0 } in
    let l = whole 3 ∷ zero64 ∷ zero64 ∷ power 1 (pos 2) ∷ (zeros 4 ++ (whole 3 ∷ zero64 ∷ zero64 ∷ power 1 (pos 2) ∷ one64 ∷ one64 ∷ [])) in
    said (round_call s (absolute_cut three_quarters) l (zeros (scratch_for 14))).result

abbrev still : Axis
still = record { a = zero64; b = zero64; xmin = zero64; xmax = one64; boundary = periodic }

abbrev stepped : List ℕ
stepped =
    let settings : Settings = record { tau = one64; c = zero64; cutting = absolute_cut three_quarters } in
    said (step_call settings D-shape (still ∷ still ∷ []) (D-with one64) (zeros (scratch_for 6))).result

-- ---- steps that move core 0 by one of its four points either way: a column of one number stays; of two signs, with one neighbour of each, it is halved
abbrev moving : Axis
moving = record { a = quarter64; b = zero64; xmin = zero64; xmax = whole 3; boundary = periodic }

-- rounded by eps 0.5
abbrev evolved : ℕ → ℕ → Float → List Float → List ℕ
evolved r steps final l =
    said (evolve_call final steps zero64 (absolute_cut half64) (two_cores 4 r 1) (moving ∷ still ∷ []) l (zeros (scratch_for (length l)))).result

-- columns 1, 1, 1, 1 and 2, 2, -2, -2: of norms 2 and 2 after the first step, of 1 and 0.5 after the second, which drops 0.5; the third drops nothing
abbrev two_columns : List Float
two_columns = let down = fin true 1 (pos 1) in one64 ∷ two64 ∷ one64 ∷ two64 ∷ one64 ∷ down ∷ one64 ∷ down ∷ one64 ∷ one64 ∷ []

-- and a third column x, -x, -x, x, which the first step halves: of a norm of x, it is dropped at once; the second step drops 0.5
abbrev three_columns : ℕ → List Float
three_columns m =
    let x = power m (negsuc 1) in
    let y = fin true m (negsuc 1) in
    let down = fin true 1 (pos 1) in
    one64 ∷ two64 ∷ x ∷ one64 ∷ two64 ∷ y ∷ one64 ∷ down ∷ y ∷ one64 ∷ down ∷ x ∷ one64 ∷ one64 ∷ one64 ∷ []

-- ranks and dropped values where there is one bond
abbrev one_bond : ℕ → Float → List ℕ
one_bond r x = r ∷ 0 ∷ 0 ∷ bits (x ∷ zero64 ∷ zero64 ∷ [])

-- the number of a case is that of the refusal that it tells, 0 where a call is not refused
unfoldable pub dropping : List Case
dropping =
    -- 3 lies above 0.5*4, and not above 0.75*4
    case 0 (rounded half64 one64) (one_bond 2 zero64)
    ∷ case 0 (rounded three_quarters one64) (one_bond 1 (whole 3))
    ∷ case 0 stepped (one_bond 1 (whole 3))
    -- each bond its own
    ∷ case 0 D-between (1 ∷ 1 ∷ 0 ∷ bits (whole 3 ∷ whole 12 ∷ zero64 ∷ []))
    -- a call that is refused behind a bond that dropped 3 tells of none
    ∷ case 13 (rounded three_quarters (power 1 (pos 1023))) (13 ∷ 1 ∷ 0 ∷ 0 ∷ 0 ∷ 0 ∷ bits (zeros 3))
    -- the greatest of all steps: of 0, 0.5 and 0, of 0.25 and 0.5, of 0.75 and 0.5
    ∷ case 0 (evolved 2 3 (whole 3) two_columns) (one_bond 1 half64)
    ∷ case 0 (evolved 3 2 two64 (three_columns 1)) (one_bond 1 half64)
    ∷ case 0 (evolved 3 2 two64 (three_columns 3)) (one_bond 1 three_quarters)
    -- a refused one tells of none
    ∷ case 7 (evolved 3 0 two64 (three_columns 3)) (7 ∷ 0 ∷ 0 ∷ 0 ∷ 0 ∷ 0 ∷ bits (zeros 3))
    ∷ []
