-- What the loops of a contraction go through. Definitions for loops only.
use Rattle.std.specs.Prelude.{ℕ, ◌+◌, ◌*◌, List, length, Float}
use Rattle.numbers.specs.Arithmetic.{times}
use Rattle.lists.specs.Lists.{iter}
use Rattle.lists.specs.Floats.{at, sum_rows}
use Rattle.lists.specs.Strips.{added_in}

-- the first m points of a left index, whose numbers start at p, added to a strip of h sums
unfoldable pub points_in : ℕ → Float → List Float → ℕ → ℕ → List Float → ℕ → List Float → List Float
points_in h x core p rr f m s = iter m (λ (i : ℕ). added_in h (λ (t : ℕ). times (times x (at core (p + i * rr + t))) (at f i))) s

-- the new sum at right index j, by flat indices
unfoldable pub new_sum : List Float → ℕ → List Float → List Float → ℕ → Float
new_sum core rr f eta j = sum_rows (length eta) (length f) (λ (a i : ℕ). times (times (at eta a) (at core (a * (length f * rr) + (i * rr + j)))) (at f i))
