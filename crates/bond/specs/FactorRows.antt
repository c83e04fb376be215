-- The left factor and the carry as one stage, and how its loops go: rows, and columns of rows. Definitions for loops only.
use Rattle.std.specs.Prelude.{ℕ, ◌+◌, ◌*◌, ◌<◌, List, get_or, set, Float, Ok}
use Rattle.answers.specs.Outcome.{Made, bind}
use Rattle.numbers.specs.Arithmetic.{times, over, zero64}
use Rattle.lists.specs.Lists.{pick, grid, iter}
use Rattle.lists.specs.Floats.{at, cell, stored}
use Rattle.shape.specs.Cores.{Core}
use Rattle.bond.specs.Products.{dot_at}
use Rattle.cutform.specs.Modes.{divided}
use Rattle.cutform.specs.Factors.{left_factor, carry_of}

pub record Factors : Type 0 where
  pub left : List Float
  pub carry : List Float

unfoldable pub factors_of : ℕ → Core → ℕ → List Float → List ℕ → List Float → Made Factors
factors_of mode c r ss js v =
    bind (stored (left_factor mode c r ss js v)) (λ u.
    bind (stored (carry_of c.rr r ss js v)) (λ b.
    Ok (record { left = u; carry = b })))

-- the first r of js are columns of n
abbrev pub Columns : ℕ → List ℕ → ℕ → Type 0
Columns n js r = (j : ℕ) → j < r → get_or js j 0 < n

-- the columns of the basis that js names, side by side: n rows of r
unfoldable pub gathered : ℕ → ℕ → List ℕ → List Float → List Float
gathered n r js v = grid n r (λ (k j : ℕ). cell n v k (get_or js j 0))

-- an entry divided by its column's value, or 0
unfoldable pub finished : ℕ → Float → Float → Float
finished mode value x = pick (divided mode value) (over x value) zero64

-- column j of m rows of r
unfoldable pub finish_column : ℕ → ℕ → ℕ → ℕ → Float → List Float → List Float
finish_column mode m r j value l = iter m (λ (i : ℕ) (t : List Float). set t (i * r + j) (finished mode value (at t (i * r + j)))) l

-- m rows of n times the columns, each entry finished
unfoldable pub left_rows : ℕ → ℕ → ℕ → ℕ → List Float → List Float → List Float → List Float
left_rows mode m n r columns ss a = grid m r (λ (i j : ℕ). finished mode (at ss j) (dot_at a (i * n) 1 columns r n j))

-- each column times its value: r rows of n
unfoldable pub carry_rows : ℕ → ℕ → List Float → List Float → List Float
carry_rows n r columns ss = grid r n (λ (i j : ℕ). times (at ss i) (at columns (j * r + i)))
