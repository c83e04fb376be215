-- The sums done by hand of the scope, as one list: what the definitions give, and what is written there. Definitions only.
use Rattle.std.specs.Prelude.{ℕ, suc, ◌≡◌, List, [], ◌∷◌, ◌++◌, map, ℤ, pos, negsuc, length, take, replicate, Float, true, false, Ok, Err}
use Rattle.std.specs.Float.{fin, binary64}
use Rattle.std.specs.Float.Ieee.{to_bits}
use Rattle.answers.specs.Outcome.{Answer, Check, held_or}
use Rattle.answers.specs.Table.{told_of}
use Rattle.numbers.specs.Arithmetic.{zero64, one64, two64, half64, quarter64}
use Rattle.numbers.specs.Root.{root_of}
use Rattle.numbers.specs.Floor.{floor_of}
use Rattle.numbers.specs.Whole.{fraction_of, whole_in_reach}
use Rattle.lists.specs.Floats.{zeros}
use Rattle.shape.specs.declared.Shape.{Shape}
use Rattle.shape.specs.Limits.{scratch_for}
use Rattle.stepform.specs.declared.Axis.{Axis}
use Rattle.stepform.specs.Boundaries.{periodic}
use Rattle.cutform.specs.Modes.{absolute_cut}
use Rattle.cutform.specs.declared.Rounded.{Rounded}
use Rattle.cutform.specs.declared.Bond.{Bond}
use Rattle.cutform.specs.Call.{Ended, round_call}
use Rattle.sumform.specs.Call.{inner_call}
use Rattle.stepform.specs.declared.Settings.{Settings}
use Rattle.stepform.specs.Call.{step_call}

-- ---- numbers: each float by its bits
abbrev pub bits : List Float → List ℕ
bits xs = map (to_bits binary64) xs

-- m * 2 ^ e
abbrev pub power : ℕ → ℤ → Float
power m e = fin false m e

abbrev pub whole : ℕ → Float
whole m = fin false m (pos 0)

-- an integer: 1 where it is below zero, and its size
abbrev integer : ℤ → List ℕ
integer (pos k) = 0 ∷ k ∷ []
integer (negsuc k) = 1 ∷ suc k ∷ []

-- ---- chains
abbrev pub two_cores : ℕ → ℕ → ℕ → Shape
two_cores n r m = record { d = 2; left = 1 ∷ r ∷ replicate 14 0; n = n ∷ m ∷ replicate 14 0; right = r ∷ 1 ∷ replicate 14 0 }

abbrev pub D-shape : Shape
D-shape = two_cores 2 2 1

-- D with x for its last number, which is core 1's
abbrev pub D-with : Float → List Float
D-with x = whole 3 ∷ zero64 ∷ zero64 ∷ power 1 (pos 2) ∷ one64 ∷ x ∷ []

abbrev D : List Float
D = D-with one64

-- ---- what a call answers: what is told of a refusal, or the right ranks, the sweeps and the chain of n cores
abbrev ended : ℕ → Rounded → List Float → Check → List ℕ
ended n r l (Ok _) = take n r.shape.right ++ (take n (map (λ (b : Bond). b.sweeps) r.bonds) ++ bits l)
ended n r l (Err e) = told_of (Err e)

abbrev pub ended_bits : ℕ → Ended → List ℕ
ended_bits n e = ended n e.result e.chain e.result.verdict

abbrev rounded : Shape → Float → List Float → List ℕ
rounded s eps l = ended_bits 2 (round_call s (absolute_cut eps) l (zeros (scratch_for (length l))))

-- or the shape that it leaves: d, then the left ranks, the sizes and the right ranks of two cores
abbrev shape_left : Shape → Check → List ℕ
shape_left s (Ok _) = s.d ∷ take 2 s.left ++ (take 2 s.n ++ take 2 s.right)
shape_left s (Err e) = told_of (Err e)

abbrev shape_rounded : Shape → Float → List Float → List ℕ
shape_rounded s eps l = let r = (round_call s (absolute_cut eps) l (zeros (scratch_for (length l)))).result in shape_left r.shape r.verdict

-- a figure, +0 where it is refused
abbrev pub figure_bits : Answer Float → List ℕ
figure_bits o = bits (held_or zero64 o ∷ [])

-- D rounded as P8 has it, which stands in the same shape
abbrev D-rounded : List Float
D-rounded = (round_call D-shape (absolute_cut zero64) D (zeros (scratch_for 6))).chain

pub record Case : Type 0 where
  pub number : ℕ
  pub got : List ℕ
  pub want : List ℕ

abbrev pub case : ℕ → List ℕ → List ℕ → Case
case n g w = record { number = n; got = g; want = w }

abbrev P5-ratio : Float
P5-ratio = fin true 1 (negsuc 59)

abbrev pub P7-shape : Shape
P7-shape = record { d = 1; left = 1 ∷ replicate 15 0; n = 4 ∷ replicate 15 0; right = 1 ∷ replicate 15 0 }

abbrev pub P7-core : List Float
P7-core = power 1 (pos 2) ∷ power 1 (pos 3) ∷ power 1 (pos 4) ∷ zero64 ∷ []

abbrev P7-axis : Axis
P7-axis = record { a = quarter64; b = zero64; xmin = zero64; xmax = whole 3; boundary = periodic }

abbrev pub P7-settings : Settings
P7-settings = record { tau = one64; c = zero64; cutting = absolute_cut zero64 }

abbrev weights : List Float
weights = one64 ∷ two64 ∷ one64 ∷ []

unfoldable pub cases : List Case
cases =
    case 1 (bits (root_of (power 1 (negsuc 207)) ∷ [])) (bits (power 1 (negsuc 103) ∷ []))
    ∷ case 2 (bits (root_of two64 ∷ [])) (0x3FF6A09E667F3BCD ∷ [])
    ∷ case 4 (bits (floor_of (fin true 1 (negsuc 1)) ∷ [])) (bits (fin true 1 (pos 0) ∷ []))
    -- the floor, the integer s0 that the shift takes for it, and t
    ∷ case 5 (bits (floor_of P5-ratio ∷ []) ++ (integer (whole_in_reach P5-ratio) ++ bits (fraction_of P5-ratio ∷ [])))
    (bits (fin true 1 (pos 0) ∷ []) ++ (1 ∷ 1 ∷ bits (one64 ∷ [])))
    ∷ case 7 (ended_bits 1 (step_call P7-settings P7-shape (P7-axis ∷ []) P7-core (zeros (scratch_for 4))))
    (1 ∷ 0 ∷ bits (power 1 (pos 2) ∷ whole 9 ∷ power 5 (pos 1) ∷ whole 5 ∷ []))
    ∷ case 8 (rounded D-shape zero64 D) (2 ∷ 1 ∷ 0 ∷ 0 ∷ bits (zero64 ∷ one64 ∷ one64 ∷ zero64 ∷ power 1 (pos 2) ∷ whole 3 ∷ []))
    -- the shape stays, of rank 2
    ∷ case 9 (shape_rounded D-shape half64 D) (2 ∷ 1 ∷ 2 ∷ 2 ∷ 1 ∷ 2 ∷ 1 ∷ [])
    ∷ case 10 (rounded D-shape (power 3 (negsuc 1)) D) (1 ∷ 1 ∷ 0 ∷ 0 ∷ bits (zero64 ∷ one64 ∷ power 1 (pos 2) ∷ zero64 ∷ zero64 ∷ zero64 ∷ []))
    ∷ case 12 (take 6 (rounded (two_cores 1 2 1) zero64 (power 1 (negsuc 26) ∷ power 1 (negsuc 26) ∷ one64 ∷ one64 ∷ [])))
    (2 ∷ 1 ∷ 0 ∷ 0 ∷ bits (one64 ∷ one64 ∷ []))
    ∷ case 13 (rounded (two_cores 1 1 1) zero64 (power 1 (negsuc 103) ∷ one64 ∷ [])) (1 ∷ 1 ∷ 0 ∷ 0 ∷ bits (zero64 ∷ power 1 (negsuc 103) ∷ []))
    ∷ case 14 (figure_bits (inner_call D-shape D weights) ++ figure_bits (inner_call D-shape D-rounded weights)) (bits (whole 11 ∷ whole 11 ∷ []))
    ∷ []

abbrev pub AllRight : List Case → Type 0
AllRight [] = Unit {0}
AllRight (c ∷ cs) = (c.got ≡ c.want) × AllRight cs
