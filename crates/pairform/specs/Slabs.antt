-- The slab that two neighbouring cores make (003: `contract_slab`). Definitions only.
use Rattle.std.specs.Prelude.{ℕ, ◌*◌, ◌/◌, ◌%◌, List, Float}
use Rattle.std.specs.Float.Ieee.{eq}
use Rattle.numbers.specs.Arithmetic.{plus, times, zero64}
use Rattle.lists.specs.Lists.{iter, pick, grid}
use Rattle.shape.specs.Cores.{Core, entry}

-- s + x*y, or s where x is zero: the term is skipped
unfoldable pub plus_product : Float → Float → Float → Float
plus_product s x y = pick (eq x zero64) s (plus s (times x y))

-- the sum over the middle rank, ascending
unfoldable pub slab_entry : Core → Core → ℕ → ℕ → ℕ → ℕ → Float
slab_entry l r il ij ik ir = iter l.rr (λ (im : ℕ) (s : Float). plus_product s (entry l il ij im) (entry r im ik ir)) zero64

-- entry (il, ij, ik, ir) stands in row il*n_j + ij and column ik*r_right + ir
unfoldable pub slab : Core → Core → List Float
slab l r = grid (l.rl * l.n) (r.n * r.rr) (λ (row col : ℕ). slab_entry l r (row / l.n) (row % l.n) (col / r.rr) (col % r.rr))
