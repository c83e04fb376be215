-- Lists of f64: reading, sums from the left, and whether all are finite. Definitions only.
use Rattle.std.specs.Prelude.{ℕ, ◌+◌, ◌*◌, Bool, true, not, ◌&&◌, List, [], ◌∷◌, length, get_or, replicate, Float, Ok, Err}
use Rattle.std.specs.Float.{nan}
use Rattle.answers.specs.Outcome.{Made}
use Rattle.numbers.specs.Arithmetic.{plus, zero64}
use Rattle.numbers.specs.Finite.{finite}
use Rattle.lists.specs.Lists.{iter, first, pick}

-- the number at i
abbrev pub at : List Float → ℕ → Float
at l i = get_or l i nan

-- the number at row i and column j of rows of n
abbrev pub cell : ℕ → List Float → ℕ → ℕ → Float
cell n l i j = at l (i * n + j)

abbrev pub zeros : ℕ → List Float
zeros n = replicate n zero64

-- ((acc + t 0) + t 1) + .. , k terms
unfoldable pub sum_on : Float → ℕ → (ℕ → Float) → Float
sum_on acc k t = iter k (λ (i : ℕ) (s : Float). plus s (t i)) acc

-- ((0 + t 0) + t 1) + .. , k terms
unfoldable pub sum_to : ℕ → (ℕ → Float) → Float
sum_to k t = sum_on zero64 k t

-- m rows of n terms, row after row: ((0 + t 0 0) + t 0 1) + ..
unfoldable pub sum_rows : ℕ → ℕ → (ℕ → ℕ → Float) → Float
sum_rows m n t = iter m (λ (i : ℕ) (s : Float). sum_on s n (t i)) zero64

unfoldable pub all_finite : List Float → Bool
all_finite [] = true
all_finite (x ∷ xs) = finite x && all_finite xs

-- the index of the first number that isn't finite, or the length
unfoldable pub first_not_finite : List Float → ℕ
first_not_finite l = first (λ (i : ℕ). not (finite (at l i))) (length l)

-- numbers to be stored: all are finite, or the index of the first that isn't
unfoldable pub stored : List Float → Made (List Float)
stored l = pick (all_finite l) (Ok l) (Err (first_not_finite l))
