-- The angle of a Jacobi rotation, a line of numbers of which two are turned, and the basis as it starts. Definitions only.
use Rattle.std.specs.Prelude.{ℕ, List, eqb, Float}
use Rattle.std.specs.Float.Ieee.{le}
use Rattle.numbers.specs.Arithmetic.{plus, minus, times, over, zero64, one64, two64}
use Rattle.numbers.specs.Root.{root_of}
use Rattle.lists.specs.Lists.{pick, grid}

-- 1 / (x + sqrt(1 + x*x)), or with a minus where x is below zero
unfoldable pub tangent_of : Float → Float
tangent_of x =
    let w = root_of (plus one64 (times x x)) in
    over one64 (pick (le zero64 x) (plus x w) (minus x w))

-- (high - low) / (2 * off): what the tangent is taken of
unfoldable pub slope_of : Float → Float → Float → Float
slope_of low high off = over (minus high low) (times two64 off)

-- 1 / sqrt(1 + t*t)
unfoldable pub cosine_of : Float → Float
cosine_of t = over one64 (root_of (plus one64 (times t t)))

-- number k of the line f once the numbers at p and q are turned by the cosine c and the sine s
unfoldable pub turned_at : ℕ → ℕ → Float → Float → (ℕ → Float) → ℕ → Float
turned_at p q c s f k =
    pick (eqb k p) (minus (times c (f p)) (times s (f q)))
    (pick (eqb k q) (plus (times s (f p)) (times c (f q))) (f k))

-- 1 on the diagonal, +0 elsewhere
unfoldable pub eye : ℕ → List Float
eye n = grid n n (λ (i j : ℕ). pick (eqb i j) one64 zero64)
