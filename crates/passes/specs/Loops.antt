-- How the loops of the passes go: a pass row by row, and what is held beside the columns. Definitions for loops only.
use Rattle.std.specs.Prelude.{ℕ, ◌+◌, ◌-◌, ◌*◌, ◌≡◌, true, List, length, Float}
use Rattle.answers.specs.Outcome.{Made}
use Rattle.lists.specs.Walks.{turning}
use Rattle.lists.specs.Floats.{all_finite}
use Rattle.columns.specs.Loops.{squares}
use Rattle.pairform.specs.Passes.{Pass, rotate}

-- the pairs (p, q) of one p
unfoldable pub pass_row : ℕ → ℕ → ℕ → Pass → Made Pass
pass_row m n p x = turning (n - (p + 1)) (p + 1) (λ (q : ℕ). rotate m n p q) x

-- n columns of m numbers, a basis of n by n, and the sums of squares
pub record Held (m n : ℕ) (a v ss : List Float) : Type 0 where
  pub long : length a ≡ n * m
  pub wide : length v ≡ n * n
  pub fine : all_finite a ≡ true
  pub basis_fine : all_finite v ≡ true
  pub count : length ss ≡ n
  pub kept : ss ≡ squares m n a
