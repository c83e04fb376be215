-- Two of the stored columns turned, multiplied, and told near a right angle (004: `apply_jacobi_rotation`). Definitions only.
use Rattle.std.specs.Prelude.{ℕ, Bool, ◌||◌, List, Float}
use Rattle.std.specs.Float.Ieee.{le}
use Rattle.numbers.specs.Arithmetic.{times, over, zero64, tolerance64}
use Rattle.numbers.specs.Magnitude.{magnitude_of}
use Rattle.numbers.specs.Root.{root_of}
use Rattle.lists.specs.Lists.{grid}
use Rattle.lists.specs.Floats.{cell, sum_to}
use Rattle.cutform.specs.Rotation.{turned_at}

-- columns p and q turned, of n columns of m numbers each
unfoldable pub turn_stored : ℕ → ℕ → ℕ → ℕ → Float → Float → List Float → List Float
turn_stored m n p q c s a = grid n m (λ (col row : ℕ). turned_at p q c s (λ (k : ℕ). cell m a k row) col)

-- the sum over the rows, ascending, of column p times column q
unfoldable pub dot : ℕ → List Float → ℕ → ℕ → Float
dot m a p q = sum_to m (λ (row : ℕ). times (cell m a p row) (cell m a q row))

-- a pair is skipped where sq = sqrt(bp*bq) is at most zero, or alpha/sq at most 1e-14 in size; what isn't a number is neither, so that pair is turned
unfoldable pub skipped : Float → Float → Float → Bool
skipped alpha bp bq =
    let sq = root_of (times bp bq) in
    le sq zero64 || le (magnitude_of (over alpha sq)) tolerance64
