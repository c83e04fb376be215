-- The left factor and the carry of a cut (000: `jacobi_svd_trunc`). Definitions only.
use Rattle.std.specs.Prelude.{ℕ, List, get_or, Float}
use Rattle.numbers.specs.Arithmetic.{times, over, zero64}
use Rattle.lists.specs.Lists.{pick, grid}
use Rattle.lists.specs.Floats.{at, cell, sum_to}
use Rattle.shape.specs.Cores.{Core, entry, block}
use Rattle.cutform.specs.Modes.{divided}

-- (row times basis column) / value, or 0; r columns, column j the basis' at `js` j
unfoldable pub left_factor : ℕ → Core → ℕ → List Float → List ℕ → List Float → List Float
left_factor mode c r ss js v =
    block c.rl c.n r (λ (il im j : ℕ).
    pick (divided mode (at ss j)) (over (sum_to c.rr (λ (k : ℕ). times (entry c il im k) (cell c.rr v k (get_or js j 0)))) (at ss j)) zero64)

-- value times basis column: r rows of n
unfoldable pub carry_of : ℕ → ℕ → List Float → List ℕ → List Float → List Float
carry_of n r ss js v = grid r n (λ (i j : ℕ). times (at ss i) (cell n v j (get_or js i 0)))
