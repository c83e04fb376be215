-- One axis' sums worked out in f64 arithmetic beside the definition, and the call beside the entry of a chain that holds -0, by computation. Assumes nothing.
use mathlib.Core.Path.{◌≡◌, refl, ap, ◌∙◌}
use mathlib.Core.List.{List, [], ◌∷◌, map}
use Prim.Native.Nat.{ℕ, zero, suc, ◌<◌}
use native.Mathlib.Omega.{arith}
use lib.ListN.{get_or}
use lib.Ieee.{Float, nan, binary64, add, mul, of_bits, to_bits}
use Rattle.std.specs.Prelude.{Ok}
use Rattle.answers.specs.Outcome.{Answer, bind, demand, demand_each}
use Rattle.answers.proofs.Outcomes.{bind_ok}
use Rattle.numbers.specs.Arithmetic.{zero64}
use Rattle.numbers.specs.Zeros.{Alike}
use Rattle.lists.specs.Lists.{pick, listed}
use Rattle.lists.specs.Slots.{offset, slot}
use Rattle.lists.specs.Walks.{walk}
use Rattle.lists.specs.Floats.{sum_on, sum_to, sum_rows, all_finite, stored}
use Rattle.shape.specs.declared.Shape.{Shape}
use Rattle.shape.specs.Shapes.{points_of, size_ok, bond_ok, shape_ok, core_size, point_size}
use Rattle.shape.specs.Cores.{Core, core_with, place, entry, core_at, points_at}
use Rattle.sumform.specs.Contract.{contract}
use Rattle.sumform.specs.Product.{contract_at, sum_axis, sums, inner}
use Rattle.sumform.specs.Entry.{row_times, row_after, tt_entry, entry_at, OneAt}
use Rattle.sumform.specs.Call.{inner_lent, inner_finite, inner_ok, weighed, inner_call}
use Rattle.sumform.proofs.Units.{unit_entry}

abbrev of : List ℕ → List Float
of l = map (of_bits binary64) l

abbrev core : Core
core =
    core_with 2 3 2 (of
    (0x3fb999999999999a ∷ 0x3fe6666666666666 ∷ 0xbfd3333333333333 ∷ 0x3feccccccccccccd
    ∷ 0x3fc999999999999a ∷ 0x3fd999999999999a ∷ 0x3ff8000000000000 ∷ 0xc000000000000000
    ∷ 0x3fd0000000000000 ∷ 0x3fd3333333333333 ∷ 0x3fd51eb851eb851f ∷ 0xbfe8a3d70a3d70a4 ∷ []))

pub one_axis : map (to_bits binary64) (contract core (of (0x3feccccccccccccd ∷ 0x3fb999999999999a ∷ 0x3ff4cccccccccccd ∷ [])) (of (0x3fd3333333333333 ∷ 0xbffb333333333333 ∷ []))) ≡ 0xc007c432ca57a786 ∷ 0x401454af4f0d844d ∷ []
unfolding add mul of_bits to_bits listed sum_on sum_rows place entry contract
one_axis = refl

-- ---- a lone -0: a chain of one core that holds -0, 5 and -3, with weights of 1 at one index and zeros elsewhere, one of them -0
abbrev one_core : Shape
one_core = record { d = 1; left = 1 ∷ []; n = 3 ∷ []; right = 1 ∷ [] }

abbrev held : List Float
held = of (0x8000000000000000 ∷ 0x4014000000000000 ∷ 0xc008000000000000 ∷ [])

abbrev at_first : List Float
at_first = of (0x3ff0000000000000 ∷ 0x8000000000000000 ∷ 0 ∷ [])

abbrev at_last : List Float
at_last = of (0 ∷ 0x8000000000000000 ∷ 0x3ff0000000000000 ∷ [])

-- the number that stands at index i, beside the entry of the chain there
abbrev entries : ℕ → ℕ × ℕ
entries i = (to_bits binary64 (entry (core_at one_core held 0) 0 i 0), to_bits binary64 (entry_at one_core held (λ (k : ℕ). i)))

-- what the call answers
abbrev figure : List Float → Answer ℕ
figure weights = bind (inner_call one_core held weights) (λ (x : Float). Ok (to_bits binary64 x))

-- where -0 stands, entry and figure are +0; where -3 stands, both are -3
pub lone_entries : entries 0 ∷ entries 2 ∷ [] ≡ (0x8000000000000000, 0) ∷ (0xc008000000000000, 0xc008000000000000) ∷ []
unfolding add mul of_bits to_bits listed offset slot sum_on sum_to place entry core_at core_size row_times row_after tt_entry entry_at
lone_entries = refl

pub lone_figures : figure at_first ∷ figure at_last ∷ [] ≡ Ok 0 ∷ Ok 0xc008000000000000 ∷ []
unfolding add mul of_bits to_bits demand demand_each pick listed offset slot sum_on sum_rows all_finite stored place entry core_at points_at core_size point_size size_ok
    bond_ok shape_ok contract contract_at sum_axis walk sums inner weighed inner_lent inner_finite inner_ok inner_call
lone_figures = refl

-- and the entry theorem speaks of this call
first_alone : (k : ℕ) → k < 1 → OneAt (points_of one_core k) 0 (points_at one_core at_first k)
unfolding of_bits offset slot point_size points_at
first_alone zero lt = record { inside = omega arith; one = refl; elsewhere = others }
  where
    others : (j : ℕ) → j < 3 → ¬ (j ≡ 0) → Alike (get_or at_first j nan) zero64
    others zero l d = absurd (d refl)
    others (suc zero) l d = refl
    others (suc (suc zero)) l d = refl
    others (suc (suc (suc j))) l d = absurd (omega arith)
first_alone (suc k) lt = absurd (omega arith)

pub lone_is : inner_call one_core held at_first ≡ Ok (entry_at one_core held (λ (k : ℕ). 0))
lone_is =
    let B = bind_ok (inner_call one_core held at_first) (λ (x : Float). Ok (to_bits binary64 x)) 0 (ap (λ (l : List (Answer ℕ)). get_or l 0 (Ok 0)) lone_figures) in
    B.1 ∙ ap Ok (unit_entry one_core held at_first (λ (k : ℕ). 0) first_alone B.0 B.1)
