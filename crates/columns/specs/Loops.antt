-- The sums of squares that are kept beside the columns, and columns of which two are not known. Definitions for loops only.
use Rattle.std.specs.Prelude.{ℕ, ◌<◌, ◌≡◌, true, List, Float}
use Rattle.numbers.specs.Finite.{finite}
use Rattle.lists.specs.Lists.{tab}
use Rattle.lists.specs.Floats.{cell}
use Rattle.pairform.specs.Columns.{dot}

-- the sum of squares of each column
unfoldable pub squares : ℕ → ℕ → List Float → List Float
squares m n a = tab n (λ (col : ℕ). dot m a col col)

-- n columns of m numbers but p and q are finite
abbrev pub FiniteElsewhere : ℕ → ℕ → ℕ → ℕ → List Float → Type 0
FiniteElsewhere m n p q a = (col row : ℕ) → col < n → row < m → ¬ (col ≡ p) → ¬ (col ≡ q) → finite (cell m a col row) ≡ true
