-- Sums whose only terms are -0 worked out beside the definitions, by computation: they start at +0, and +0 + -0 is +0. Assumes nothing.
use mathlib.Core.Path.{◌≡◌, refl}
use mathlib.Core.List.{List, [], ◌∷◌, map}
use Prim.Native.Nat.{ℕ}
use lib.ListN.{replicate}
use lib.Ieee.{Float, binary64, add, mul, of_bits, to_bits}
use Rattle.std.specs.Prelude.{Ok}
use Rattle.answers.specs.Outcome.{Answer, bind, demand, demand_each}
use Rattle.lists.specs.Lists.{pick, listed}
use Rattle.lists.specs.Floats.{sum_on, sum_rows, all_finite, stored}
use Rattle.lists.specs.Slots.{offset, slot}
use Rattle.lists.specs.Walks.{walk}
use Rattle.shape.specs.declared.Shape.{Shape}
use Rattle.shape.specs.Shapes.{size_ok, bond_ok, shape_ok, core_size, point_size}
use Rattle.shape.specs.Cores.{core_with, place, entry, core_at, points_at}
use Rattle.sumform.specs.Contract.{contract}
use Rattle.sumform.specs.Product.{contract_at, sum_axis, sums, inner}
use Rattle.sumform.specs.Call.{inner_lent, inner_finite, inner_ok, weighed, inner_call}

abbrev of : List ℕ → List Float
of l = map (of_bits binary64) l

abbrev one : ℕ
one = 0x3ff0_0000_0000_0000

abbrev minus_one : ℕ
minus_one = 0xbff0_0000_0000_0000

abbrev minus_nought : ℕ
minus_nought = 0x8000_0000_0000_0000

-- one axis of two points
abbrev two_points : Shape
two_points = record { d = 1; left = 1 ∷ replicate 15 0; n = 2 ∷ replicate 15 0; right = 1 ∷ replicate 15 0 }

-- what the call answers, the figure by its bits
abbrev figure : List ℕ → List ℕ → Answer ℕ
figure chain weights = bind (inner_call two_points (of chain) (of weights)) (λ (x : Float). Ok (to_bits binary64 x))

pub record Edges : Type 0 where
  -- one axis' sums, of two left and two right indices
  pub axis_signs : map (to_bits binary64) (contract (core_with 2 1 2 (of (replicate 4 minus_nought))) (of (one ∷ [])) (of (one ∷ one ∷ []))) ≡ 0 ∷ 0 ∷ []
  -- the call, with the sign on the entries and on the weights
  pub entries_signed : figure (minus_nought ∷ minus_nought ∷ []) (one ∷ one ∷ []) ≡ Ok 0
  pub weights_signed : figure (0 ∷ 0 ∷ []) (minus_one ∷ minus_one ∷ []) ≡ Ok 0

pub edges : Edges
unfolding add mul of_bits to_bits demand demand_each pick listed sum_on sum_rows all_finite stored offset slot walk size_ok bond_ok shape_ok core_size point_size
    place entry core_at points_at contract contract_at sum_axis sums inner inner_lent inner_finite inner_ok weighed inner_call
edges = record { axis_signs = refl; entries_signed = refl; weights_signed = refl }
