-- The slab by flat indices: row after row of the left core, column after column of the right one. Assumes nothing.
use mathlib.Core.Path.{◌≡◌, ap, ap₂, ◌∙◌, sym, fun_ext}
use Prim.Native.Nat.{ℕ, ◌+◌, ◌*◌, ◌/◌, ◌%◌}
use native.Mathlib.Nat.{add_assoc, add-mul, mul_assoc, div-add-mod'}
use lib.ListN.{length}
use lib.Ieee.{Float}
use Rattle.numbers.specs.Arithmetic.{zero64}
use Rattle.lists.specs.Lists.{iter, grid}
use Rattle.lists.specs.Floats.{at, cell}
use Rattle.lists.proofs.Tables.{length_grid}
use Rattle.shape.specs.Cores.{Core, place, entry}
use Rattle.pairform.specs.Slabs.{plus_product, slab_entry, slab}

-- the left core's numbers are rl*n rows of rr, the right core's rl rows of n*rr
place_row : (n rr row ir : ℕ) → place n rr (row / n) (row % n) ir ≡ row * rr + ir
unfolding place
place_row n rr row ir = ap (λ (k : ℕ). k + ir) (sym (add-mul (row / n * n) (row % n) rr) ∙ ap (λ (k : ℕ). k * rr) (div-add-mod' row n))

place_column : (n rr il col : ℕ) → place n rr il (col / rr) (col % rr) ≡ il * (n * rr) + col
unfolding place
place_column n rr il col = add_assoc (il * n * rr) (col / rr * rr) (col % rr) ∙ ap₂ (λ (a b : ℕ). a + b) (mul_assoc il n rr) (div-add-mod' col rr)

pub slab_flat : (l r : Core)
    → slab l r ≡ grid (l.rl * l.n) (r.n * r.rr) (λ (row col : ℕ). iter l.rr (λ (im : ℕ) (s : Float). plus_product s (cell l.rr l.entries row im) (cell (r.n * r.rr) r.entries im col)) zero64)
unfolding slab slab_entry entry
slab_flat l r = ap (λ (f : ℕ → ℕ → Float). grid (l.rl * l.n) (r.n * r.rr) f)
    (fun_ext λ row. fun_ext λ col. ap (λ (g : ℕ → Float → Float). iter l.rr g zero64)
    (fun_ext λ im. fun_ext λ s. ap₂ (λ (i j : ℕ). plus_product s (at l.entries i) (at r.entries j)) (place_row l.n l.rr row im) (place_column r.n r.rr im col)))

pub slab_length : (l r : Core) → length (slab l r) ≡ l.rl * l.n * (r.n * r.rr)
unfolding slab
slab_length l r = length_grid (l.rl * l.n) (r.n * r.rr) _
