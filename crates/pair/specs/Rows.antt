-- The numbers of two cores row by row. Definitions for loops only.
use Rattle.std.specs.Prelude.{ℕ, List, get_or, Float, Ok}
use Rattle.numbers.specs.Arithmetic.{times}
use Rattle.answers.specs.declared.Part.TheVariants.{Factor}
use Rattle.answers.specs.Outcome.{Answer, bind, making}
use Rattle.lists.specs.Lists.{grid}
use Rattle.lists.specs.Floats.{at, cell, stored}
use Rattle.pairform.specs.Numbers.{inverse}

-- m rows of r, of columns of m numbers
unfoldable pub left_rows : (m r : ℕ) → List Float → List ℕ → List Float → List Float
left_rows m r ss js a = grid m r (λ (row k : ℕ). times (times (cell m a (get_or js k 0) row) (inverse (at ss k))) (at ss k))

-- r rows of n, of a basis of n by n
unfoldable pub right_rows : (n r : ℕ) → List ℕ → List Float → List Float
right_rows n r js v = grid r n (λ (k i : ℕ). cell n v (get_or js k 0) i)

-- the numbers of the two cores
pub record Both : Type 0 where
  pub left : List Float
  pub right : List Float

unfoldable pub formed_from : (m n r : ℕ) → List Float → List ℕ → List Float → List Float → Answer Both
formed_from m n r ss js a v =
    bind (making Factor 0 (stored (left_rows m r ss js a))) (λ x.
    bind (making Factor 1 (stored (right_rows n r js v))) (λ y.
    Ok (record { left = x; right = y })))
