-- The partial sums from zone z on, as memory has them: each axis' sums in a slot of their own, from the sums held left of z. Definitions only.
use Rattle.std.specs.Prelude.{ℕ, zero, suc, ◌-◌, List, map, take, Float, Ok}
use Rattle.numbers.specs.Arithmetic.{zero64}
use Rattle.answers.specs.Outcome.{Answer, bind}
use Rattle.lists.specs.Lists.{listed}
use Rattle.lists.specs.Slots.{slot, write}
use Rattle.lists.specs.Walks.{walk}
use Rattle.shape.specs.declared.Shape.{Shape}
use Rattle.shape.specs.Shapes.{left_of, right_of}
use Rattle.shape.specs.Cores.{Core, standing, points_at}
use Rattle.sumform.specs.Product.{sum_axis, start_sums}

-- the slots: an axis' sums have r_right places
unfoldable pub sum_size : Shape → ℕ → ℕ
sum_size s k = right_of s k

-- the r sums that are held left of zone k
unfoldable pub sums_left : Shape → ℕ → List Float → ℕ → List Float
sums_left s r sums zero = start_sums
sums_left s r sums (suc k) = take r (slot (sum_size s) k sums)

-- core k of the chain of shape t that stands in the room of s, with its axis' weights
unfoldable pub weighed_in : Shape → Shape → List Float → List Float → ℕ → Core × List Float
weighed_in s t work weights k = (standing s t work k, points_at s weights k)

-- the sums from z on, into the slots from z on; unused room of a slot is +0
unfoldable pub sums_from : Shape → Shape → List Float → List Float → ℕ → List Float → Answer (List Float)
sums_from s t work weights z sums =
    bind (walk sum_axis z (sums_left s (left_of t z) sums z) (listed (s.d - z) z (weighed_in s t work weights)))
    (λ tr. Ok (write (sum_size s) zero64 s.d z (map (λ (r : List Float × Unit {0}). r.0) tr) sums))
