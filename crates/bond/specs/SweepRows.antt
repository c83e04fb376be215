-- How the loops over pairs go: row by row. Definitions for loops only.
use Rattle.std.specs.Prelude.{ℕ, ◌+◌, ◌-◌, Bool, true, ◌&&◌, List, Float}
use Rattle.answers.specs.Outcome.{Made}
use Rattle.numbers.specs.Arithmetic.{plus, times, two64}
use Rattle.lists.specs.Lists.{iter_from, pairs, folded}
use Rattle.lists.specs.Walks.{turning}
use Rattle.lists.specs.Floats.{cell}
use Rattle.cutform.specs.Modes.{skipped}
use Rattle.cutform.specs.Sweeps.{Eig, rotate}

-- the pairs (p, q) of one p
unfoldable pub sweep_row : ℕ → ℕ → ℕ → Eig → Made Eig
sweep_row mode n p e = turning (n - (p + 1)) (p + 1) (λ (q : ℕ). rotate mode n p q) e

unfoldable pub off_row : ℕ → List Float → ℕ → Float → Float
off_row n g p s = iter_from (p + 1) n (λ (q : ℕ) (x : Float). plus x (times (times two64 (cell n g p q)) (cell n g p q))) s

unfoldable pub still_row : ℕ → ℕ → List Float → ℕ → Bool → Bool
still_row mode n g p b = iter_from (p + 1) n (λ (q : ℕ) (x : Bool). x && skipped mode n g p q) b

-- whether every pair is skipped
unfoldable pub still : ℕ → ℕ → List Float → Bool
still mode n g = folded (pairs n) (λ (x : ℕ × ℕ) (b : Bool). b && skipped mode n g x.0 x.1) true
