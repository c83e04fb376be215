-- One axis of the sums in its slot, and what the loop over axes asks. Definitions for loops only.
use Rattle.std.specs.Prelude.{ℕ, ◌≤◌, List, length, Float, Ok}
use Rattle.numbers.specs.Arithmetic.{zero64}
use Rattle.answers.specs.Outcome.{Answer, bind}
use Rattle.lists.specs.Slots.{put, fit}
use Rattle.shape.specs.declared.Shape.{Shape}
use Rattle.shape.specs.Shapes.{left_of, entries_of, all_points}
use Rattle.shape.specs.Sizes.{SizesWithin, Inside}
use Rattle.shape.specs.Cores.{standing, points_at}
use Rattle.sumform.specs.Product.{contract_at}
use Rattle.sumform.specs.Sums.{sum_size, sums_left}

-- axis k: its sums into its slot
unfoldable pub sum_turn : Shape → Shape → List Float → List Float → ℕ → List Float → Answer (List Float)
sum_turn s t work weights k sums =
    bind (contract_at k (standing s t work k) (points_at s weights k) (sums_left s (left_of t k) sums k))
    (λ e. Ok (put (sum_size s) k (fit zero64 (sum_size s k) e) sums))

-- a chain of shape t that stands in the room of s, with its weights
pub record SumsStand (s t : Shape) (work weights : List Float) : Type 0 where
  pub within : SizesWithin s
  pub inside : Inside s t
  pub cores : entries_of s ≤ length work
  pub points : all_points s ≤ length weights
