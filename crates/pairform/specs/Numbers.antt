-- The numbers of two cores, made of stored columns, their values and their basis (004: `jacobi_extract_usvt`). Definitions only.
use Rattle.std.specs.Prelude.{ℕ, ◌+◌, ◌*◌, List, get_or, Float}
use Rattle.std.specs.Float.Ieee.{lt}
use Rattle.numbers.specs.Arithmetic.{times, over, zero64, one64}
use Rattle.lists.specs.Lists.{pick}
use Rattle.lists.specs.Floats.{at, cell}
use Rattle.shape.specs.Cores.{block}

-- 1/value, or 0 where the value isn't above zero: a column of such a value becomes zeros that keep their signs
unfoldable pub inverse : Float → Float
inverse value = pick (lt zero64 value) (over one64 value) zero64

-- (column * (1/value)) * value; r columns, column k the stored one at `js` k
unfoldable pub left_numbers : (rl nj r : ℕ) → List Float → List ℕ → List Float → List Float
left_numbers rl nj r ss js a =
    block rl nj r (λ (il ij k : ℕ).
    times (times (cell (rl * nj) a (get_or js k 0) (il * nj + ij)) (inverse (at ss k))) (at ss k))

-- row k is the basis column at `js` k
unfoldable pub right_numbers : (r nk rr : ℕ) → List ℕ → List Float → List Float
right_numbers r nk rr js v = block r nk rr (λ (k ik ir : ℕ). cell (nk * rr) v (get_or js k 0) (ik * rr + ir))
