-- The slab by flat indices, and its columns. Definitions for loops only.
use Rattle.std.specs.Prelude.{ℕ, List, Float, Ok}
use Rattle.numbers.specs.Arithmetic.{zero64}
use Rattle.answers.specs.Outcome.{Made, bind}
use Rattle.lists.specs.Lists.{iter, grid}
use Rattle.lists.specs.Floats.{cell, stored}
use Rattle.pairform.specs.Slabs.{plus_product}

-- row `row` of rows of k times column `col` of rows of w
unfoldable pub slab_at : List Float → List Float → ℕ → ℕ → ℕ → ℕ → Float
slab_at left right k w row col = iter k (λ (im : ℕ) (s : Float). plus_product s (cell k left row im) (cell w right im col)) zero64

-- the columns of m rows of n
abbrev pub columns_of : ℕ → ℕ → List Float → List Float
columns_of m n s = grid n m (λ (col row : ℕ). cell n s row col)

-- the columns of the slab of m rows of k and k rows of w
unfoldable pub slab_columns : (m k w : ℕ) → List Float → List Float → Made (List Float)
slab_columns m k w left right = bind (stored (grid m w (slab_at left right k w))) (λ s. Ok (columns_of m w s))
