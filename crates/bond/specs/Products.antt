-- Products of matrices that stand row after row. Definitions only.
use Rattle.std.specs.Prelude.{ℕ, ◌+◌, ◌*◌, List, Float}
use Rattle.numbers.specs.Arithmetic.{times}
use Rattle.lists.specs.Lists.{grid}
use Rattle.lists.specs.Floats.{at, sum_to}

-- column j of a row times a matrix: the row starts at p in b, its numbers q apart, and a has c rows of w; sums ascending
unfoldable pub dot_at : List Float → ℕ → ℕ → List Float → ℕ → ℕ → ℕ → Float
dot_at b p q a w c j = sum_to c (λ (k : ℕ). times (at b (k * q + p)) (at a (k * w + j)))

-- r rows times a, the rows' starts in b d apart
unfoldable pub product_of : List Float → ℕ → ℕ → List Float → ℕ → ℕ → ℕ → List Float
product_of b d q a w c r = grid r w (λ (i j : ℕ). dot_at b (i * d) q a w c j)
