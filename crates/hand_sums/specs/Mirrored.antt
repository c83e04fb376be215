-- Steps along axes that reflect, worked out by hand from the scope's own core 4, 8, 16, 0 (request W6). Definitions only.
use Rattle.std.specs.Prelude.{ℕ, true, List, [], ◌∷◌, pos, negsuc, Float}
use Rattle.std.specs.Float.{fin}
use Rattle.numbers.specs.Arithmetic.{zero64, one64, two64}
use Rattle.lists.specs.Floats.{zeros}
use Rattle.shape.specs.Limits.{scratch_for}
use Rattle.cutform.specs.Modes.{absolute_cut}
use Rattle.stepform.specs.declared.Axis.{Axis}
use Rattle.stepform.specs.Boundaries.{periodic, reflecting}
use Rattle.stepform.specs.Call.{step_call, evolve_call}
use Rattle.hand_sums.specs.Cases.{bits, power, whole, two_cores, ended_bits, P7-core, P7-shape, P7-settings, Case, case}

-- an axis along which a step moves by b points, of four points or of one
abbrev by : Float → ℕ → Axis
by b boundary = record { a = zero64; b = b; xmin = zero64; xmax = whole 3; boundary = boundary }

-- P7's core, moved
abbrev moved : Float → List ℕ
moved b = ended_bits 1 (step_call P7-settings P7-shape (by b reflecting ∷ []) P7-core (zeros (scratch_for 4)))

-- behind a core of one point, which holds 1
abbrev behind_one : Axis → Axis → List ℕ
behind_one x y = ended_bits 2 (step_call P7-settings (two_cores 1 1 4) (x ∷ y ∷ []) (one64 ∷ P7-core) (zeros (scratch_for 5)))

-- two steps
abbrev moved_twice : List ℕ
moved_twice = ended_bits 1 (evolve_call two64 2 zero64 (absolute_cut zero64) P7-shape (by one64 reflecting ∷ []) P7-core (zeros (scratch_for 4)))

-- a core of rank 1, and what is said of its bond: rank and sweeps
abbrev lone : List Float → List ℕ
lone l = 1 ∷ 0 ∷ bits l

abbrev pair : List Float → List ℕ
pair l = 1 ∷ 1 ∷ 0 ∷ 0 ∷ bits l

unfoldable pub mirrored : List Case
mirrored =
    -- half of each, and a quarter of each neighbour: the first and the last are their own neighbours, 2 + 2 + 1 and 0 + 0 + 4
    case 0 (moved one64) (lone (whole 5 ∷ whole 9 ∷ power 5 (pos 1) ∷ power 1 (pos 2) ∷ []))
    -- the same backward
    ∷ case 0 (moved (fin true 1 (pos 0))) (lone (whole 5 ∷ whole 9 ∷ power 5 (pos 1) ∷ power 1 (pos 2) ∷ []))
    -- by all four points either way: half of each, and half of its mirror image
    ∷ case 0 (moved (power 1 (pos 2))) (lone (two64 ∷ power 3 (pos 2) ∷ power 3 (pos 2) ∷ two64 ∷ []))
    -- by eight: back where they were
    ∷ case 0 (moved (power 1 (pos 3))) (lone P7-core)
    -- one point is its own neighbour at any distance; both boundaries in one chain
    ∷ case 0 (behind_one (by (whole 5) reflecting) (by one64 periodic)) (pair (one64 ∷ power 1 (pos 2) ∷ whole 9 ∷ power 5 (pos 1) ∷ whole 5 ∷ []))
    ∷ case 0 (behind_one (by (whole 5) periodic) (by one64 reflecting)) (pair (one64 ∷ whole 5 ∷ whole 9 ∷ power 5 (pos 1) ∷ power 1 (pos 2) ∷ []))
    -- 5, 9, 10, 4, and once more
    ∷ case 0 moved_twice (lone (power 3 (pos 1) ∷ power 33 (negsuc 1) ∷ power 33 (negsuc 1) ∷ power 11 (negsuc 0) ∷ []))
    ∷ []
