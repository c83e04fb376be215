-- A separable start worked out by hand: every rank is 1, each core holds its vector, and a call takes what was made. Assumes nothing.
use mathlib.Core.Path.{◌≡◌, refl}
use mathlib.Core.List.{List, [], ◌∷◌, map}
use Prim.Native.Nat.{ℕ}
use lib.ListN.{take, replicate}
use lib.Ieee.{Float, binary64, add, mul, of_bits, to_bits}
use Rattle.std.specs.Prelude.{Ok}
use Rattle.answers.specs.Outcome.{bind, verdict_of, held_or, demand, demand_each}
use Rattle.lists.specs.Lists.{pick, listed}
use Rattle.lists.specs.Floats.{sum_on, sum_rows, all_finite, stored}
use Rattle.lists.specs.Slots.{offset, slot}
use Rattle.lists.specs.Walks.{walk}
use Rattle.shape.specs.declared.Shape.{Shape}
use Rattle.shape.specs.Shapes.{size_ok, bond_ok, shape_ok, core_size, point_size}
use Rattle.shape.specs.Cores.{place, entry, core_at, points_at}
use Rattle.sumform.specs.Contract.{contract}
use Rattle.sumform.specs.Product.{contract_at, sum_axis, sums, inner}
use Rattle.sumform.specs.Call.{inner_lent, inner_finite, inner_ok, weighed, inner_call}
use Rattle.sumform.specs.Start.{start_sized, start_lent, start_finite, start_ok, rank_one, StartEnded, start_call}

abbrev of : List ℕ → List Float
of l = map (of_bits binary64) l

abbrev one : ℕ
one = 0x3ff0_0000_0000_0000

abbrev two : ℕ
two = 0x4000_0000_0000_0000

-- two axes, of one and two points; the ranks are not read
abbrev given : Shape
given = record { d = 2; left = 7 ∷ replicate 15 9; n = 1 ∷ 2 ∷ replicate 14 0; right = replicate 16 0 }

-- the vectors (2) and (1, 2)
abbrev end : StartEnded
end = start_call given (of (two ∷ one ∷ two ∷ [])) (of (0 ∷ 0 ∷ 0 ∷ []))

-- the shape that was made, or the one given
abbrev made : Shape
made = held_or given end.result

pub record ByHand : Type 0 where
  pub fits : verdict_of end.result ≡ Ok tt
  pub left : take 2 made.left ≡ 1 ∷ 1 ∷ []
  pub right : take 2 made.right ≡ 1 ∷ 1 ∷ []
  pub numbers : map (to_bits binary64) end.chain ≡ two ∷ one ∷ two ∷ []
  -- weights of 1 add up to 2*(1 + 2)
  pub taken : bind (inner_call made end.chain (of (one ∷ one ∷ one ∷ []))) (λ (x : Float). Ok (to_bits binary64 x)) ≡ Ok 0x4018_0000_0000_0000

pub by_hand : ByHand
unfolding add mul of_bits to_bits demand demand_each pick listed sum_on sum_rows all_finite stored offset slot walk size_ok bond_ok shape_ok core_size point_size
    place entry core_at points_at contract contract_at sum_axis sums inner inner_lent inner_finite inner_ok weighed inner_call
    start_sized start_lent start_finite start_ok rank_one start_call
by_hand = record { fits = refl; left = refl; right = refl; numbers = refl; taken = refl }
