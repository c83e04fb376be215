-- Jacobi passes over stored columns, with their count (004: `jacobi_sweep_all`, `apply_jacobi_rotation`). Definitions only.
use Rattle.std.specs.Prelude.{ℕ, zero, suc, Bool, true, false, List, Float, Ok}
use Rattle.numbers.specs.Arithmetic.{times}
use Rattle.answers.specs.Outcome.{Made, bind}
use Rattle.lists.specs.Lists.{pick, grid, pairs}
use Rattle.lists.specs.Walks.{along}
use Rattle.lists.specs.Floats.{cell, stored}
use Rattle.cutform.specs.Rotation.{tangent_of, slope_of, cosine_of, eye}
use Rattle.pairform.specs.Columns.{turn_stored, dot, skipped}

-- the slab's columns and the basis' columns, each column after column
pub record Svd : Type 0 where
  pub columns : List Float
  pub basis : List Float

abbrev pub svd : List Float → List Float → Svd
svd a v = record { columns = a; basis = v }

-- ---- one rotation
-- the columns, then the basis; both are stored once all of this is done
unfoldable pub turned_svd : ℕ → ℕ → ℕ → ℕ → Float → Float → Svd → Made Svd
turned_svd m n p q c s e =
    bind (stored (turn_stored m n p q c s e.columns)) (λ a.
    bind (stored (turn_stored n n p q c s e.basis)) (λ v.
    Ok (svd a v)))

-- what a pass leaves, and whether it turned no pair
pub record Pass : Type 0 where
  pub svd : Svd
  pub quiet : Bool

abbrev pub passed : Svd → Bool → Pass
passed e b = record { svd = e; quiet = b }

unfoldable pub rotate : ℕ → ℕ → ℕ → ℕ → Pass → Made Pass
rotate m n p q x =
    let a = x.svd.columns in
    let alpha = dot m a p q in
    let bp = dot m a p p in
    let bq = dot m a q q in
    let t = tangent_of (slope_of bp bq alpha) in
    let c = cosine_of t in
    pick (skipped alpha bp bq) (Ok x) (bind (turned_svd m n p q c (times c t) x.svd) (λ e. Ok (passed e false)))

-- ---- passes
-- p < q in order
unfoldable pub pass : ℕ → ℕ → Svd → Made Pass
pass m n e = along (pairs n) (λ (x : ℕ × ℕ). rotate m n x.0 x.1) (passed e true)

-- the passes made, and the columns and the basis then
pub record Passes : Type 0 where
  pub count : ℕ
  pub svd : Svd

abbrev pub made : ℕ → Svd → Passes
made c e = record { count = c; svd = e }

-- at most `left` more passes after c of them; b says whether the last one was quiet
unfoldable pub passes_from : ℕ → Bool → ℕ → ℕ → ℕ → Svd → Made Passes
passes_from zero b m n c e = Ok (made c e)
passes_from (suc left) true m n c e = Ok (made c e)
passes_from (suc left) false m n c e = bind (pass m n e) (λ x. passes_from left x.quiet m n (suc c) x.svd)

abbrev pub most_passes : ℕ
most_passes = 100

-- at most 100 passes, a quiet one being the last
unfoldable pub orthogonalized : ℕ → ℕ → Svd → Made Passes
orthogonalized m n e = passes_from most_passes false m n 0 e

-- the columns of a slab of m rows and n columns, and the basis before any rotation
unfoldable pub start : ℕ → ℕ → List Float → Svd
start m n s = svd (grid n m (λ (col row : ℕ). cell n s row col)) (eye n)
