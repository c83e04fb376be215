-- Chains cut in scaled mode, worked out by hand: the scope's P12 and P13, and a chain whose figure is lost in absolute mode (request W8). Definitions only.
use Rattle.std.specs.Prelude.{ℕ, List, [], ◌∷◌, negsuc, length, Float}
use Rattle.numbers.specs.Arithmetic.{zero64, one64}
use Rattle.lists.specs.Floats.{zeros}
use Rattle.shape.specs.declared.Shape.{Shape}
use Rattle.shape.specs.Limits.{scratch_for}
use Rattle.cutform.specs.declared.Cutting.{Cutting}
use Rattle.cutform.specs.Modes.{absolute_cut, scaled_cut}
use Rattle.cutform.specs.Call.{round_call}
use Rattle.sumform.specs.Call.{inner_call}
use Rattle.stepform.specs.declared.Axis.{Axis}
use Rattle.stepform.specs.declared.Settings.{Settings}
use Rattle.stepform.specs.Boundaries.{periodic}
use Rattle.stepform.specs.Call.{step_call, evolve_call}
use Rattle.hand_sums.specs.Cases.{bits, power, two_cores, ended_bits, figure_bits, Case, case}

abbrev rounded : Shape → List Float → List ℕ
rounded s l = ended_bits 2 (round_call s (scaled_cut zero64) l (zeros (scratch_for (length l))))

-- P12 and P13
abbrev P12-chain : List Float
P12-chain = power 1 (negsuc 26) ∷ power 1 (negsuc 26) ∷ one64 ∷ one64 ∷ []

abbrev P13-chain : List Float
P13-chain = power 1 (negsuc 103) ∷ one64 ∷ []

-- 3 and 4 times 2^-110, and 1 behind them
abbrev rare : List Float
rare = power 3 (negsuc 109) ∷ power 1 (negsuc 107) ∷ one64 ∷ []

abbrev rare_shape : Shape
rare_shape = two_cores 2 1 1

-- the sum of what is left of it, each weight being 1
abbrev figure_after : Cutting → List ℕ
figure_after cutting =
    figure_bits (inner_call rare_shape (round_call rare_shape cutting rare (zeros (scratch_for 3))).chain (one64 ∷ one64 ∷ one64 ∷ []))

-- a step, and two, along axes that move nothing
abbrev still : Axis
still = record { a = zero64; b = zero64; xmin = zero64; xmax = one64; boundary = periodic }

abbrev stepped : Cutting → List ℕ
stepped cutting =
    let settings : Settings = record { tau = one64; c = zero64; cutting = cutting } in
    ended_bits 2 (step_call settings (two_cores 1 1 1) (still ∷ still ∷ []) P13-chain (zeros (scratch_for 2)))

abbrev evolved : Cutting → List ℕ
evolved cutting = ended_bits 2 (evolve_call one64 2 zero64 cutting (two_cores 1 1 1) (still ∷ still ∷ []) P13-chain (zeros (scratch_for 2)))

-- ranks of 1, no sweeps, and two numbers
abbrev pair : Float → Float → List ℕ
pair x y = 1 ∷ 1 ∷ 0 ∷ 0 ∷ bits (x ∷ y ∷ [])

unfoldable pub rare_events : List Case
rare_events =
    -- the two columns are one: turned once by half a right angle, rank 1, core 0 is 1, and core 1 is 2^-26 but for its last bit, 2^-26*(1 - 2^-52)
    case 12 (rounded (two_cores 1 2 1) P12-chain) (1 ∷ 1 ∷ 1 ∷ 0 ∷ bits (one64 ∷ power 4503599627370495 (negsuc 77) ∷ zero64 ∷ zero64 ∷ []))
    -- 2^-104 divides its column
    ∷ case 13 (rounded (two_cores 1 1 1) P13-chain) (pair one64 (power 1 (negsuc 103)))
    -- so it does in a step and in steps one after another, in absolute mode it does not
    ∷ case 13 (stepped (scaled_cut zero64)) (pair one64 (power 1 (negsuc 103)))
    ∷ case 13 (stepped (absolute_cut zero64)) (pair zero64 (power 1 (negsuc 103)))
    ∷ case 13 (evolved (scaled_cut zero64)) (pair one64 (power 1 (negsuc 103)))
    ∷ case 13 (evolved (absolute_cut zero64)) (pair zero64 zero64)
    -- 0.6 and 0.8, and 5 times 2^-110 behind them: 7 times 2^-110 in all. In absolute mode all of it is lost
    ∷ case 0 (rounded rare_shape rare) (1 ∷ 1 ∷ 0 ∷ 0 ∷ 0x3FE3333333333333 ∷ 0x3FE999999999999A ∷ bits (power 5 (negsuc 109) ∷ []))
    ∷ case 0 (figure_after (scaled_cut zero64)) (bits (power 7 (negsuc 109) ∷ []))
    ∷ case 0 (figure_after (absolute_cut zero64)) (bits (zero64 ∷ []))
    ∷ []
