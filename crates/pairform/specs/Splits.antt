-- A slab split into two cores (003: `split_slab_into_cores`, 004: `one_sided_jacobi_svd`). Definitions only.
use Rattle.std.specs.Prelude.{ℕ, ◌*◌, List, leb, Float, Ok}
use Rattle.numbers.specs.Root.{root_of}
use Rattle.answers.specs.declared.Part.TheVariants.{Entry, Spectrum, Factor}
use Rattle.answers.specs.declared.Refusal.TheVariants.{PairRank}
use Rattle.answers.specs.Outcome.{Answer, bind, ◌then◌, demand, making}
use Rattle.lists.specs.Lists.{tab}
use Rattle.lists.specs.Floats.{stored}
use Rattle.shape.specs.Limits.{most_rank}
use Rattle.shape.specs.Cores.{Core, core_with}
use Rattle.cutform.specs.Values.{order, sorted, kept_rank}
use Rattle.pairform.specs.Slabs.{slab}
use Rattle.pairform.specs.Numbers.{left_numbers, right_numbers}
use Rattle.pairform.specs.Columns.{dot}
use Rattle.pairform.specs.Passes.{Passes, orthogonalized, start}

-- the root of the sum of squares of each of n columns of m numbers, rows ascending
unfoldable pub values : ℕ → ℕ → List Float → List Float
values m n a = tab n (λ (col : ℕ). root_of (dot m a col col))

-- ---- the two new cores
-- what a pair becomes
pub record Halves : Type 0 where
  pub left : Core
  pub right : Core
  pub passes : ℕ

-- the cores of the kept rank r; the left one is core 0, the right one core 1
unfoldable pub formed : (rl nj nk rr r : ℕ) → List Float → List ℕ → Passes → Answer Halves
formed rl nj nk rr r ss js w =
    bind (making Factor 0 (stored (left_numbers rl nj r ss js w.svd.columns))) (λ x.
    bind (making Factor 1 (stored (right_numbers r nk rr js w.svd.basis))) (λ y.
    Ok (record { left = core_with rl nj r x; right = core_with r nk rr y; passes = w.count })))

-- a kept rank above 8 is refused before the cores are formed
unfoldable pub cut : Float → (rl nj nk rr : ℕ) → Passes → List Float → Answer Halves
cut eps rl nj nk rr w sv =
    let n = nk * rr in
    let ss = sorted n sv in
    let r = kept_rank eps n ss in
    demand (leb r most_rank) PairRank then formed rl nj nk rr r ss (order n sv) w

-- a slab of rl*nj rows and nk*rr columns
unfoldable pub split : Float → (rl nj nk rr : ℕ) → List Float → Answer Halves
split eps rl nj nk rr s =
    bind (making Spectrum 0 (orthogonalized (rl * nj) (nk * rr) (start (rl * nj) (nk * rr) s))) (λ w.
    bind (making Spectrum 0 (stored (values (rl * nj) (nk * rr) w.svd.columns))) (λ sv.
    cut eps rl nj nk rr w sv))

unfoldable pub pair_of : Float → Core → Core → Answer Halves
pair_of eps l r = bind (making Entry 0 (stored (slab l r))) (λ s. split eps l.rl l.n r.n r.rr s)
