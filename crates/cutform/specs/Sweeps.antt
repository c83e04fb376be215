-- Jacobi sweeps over a Gram matrix, with their count (000: `jacobi_gram_ev`, `jacobi_sweep`, `apply_jacobi_rotation`). Definitions only.
use Rattle.std.specs.Prelude.{ℕ, zero, suc, ◌+◌, ◌*◌, Bool, true, false, List, set, Float, Ok}
use Rattle.numbers.specs.Arithmetic.{times, zero64}
use Rattle.answers.specs.Outcome.{Made, bind}
use Rattle.lists.specs.Lists.{pick, grid, pairs}
use Rattle.lists.specs.Walks.{along}
use Rattle.lists.specs.Floats.{cell, stored}
use Rattle.cutform.specs.Rotation.{tangent_of, slope_of, cosine_of, turned_at}
use Rattle.cutform.specs.Modes.{settled, skipped}

-- a square matrix g and the basis v, both row after row
pub record Eig : Type 0 where
  pub g : List Float
  pub v : List Float

abbrev pub eig : List Float → List Float → Eig
eig g v = record { g = g; v = v }

-- ---- one rotation
-- columns p and q of an n by n matrix turned; rows p and q
unfoldable pub turn_columns : ℕ → ℕ → ℕ → Float → Float → List Float → List Float
turn_columns n p q c s a = grid n n (λ (i j : ℕ). turned_at p q c s (λ (k : ℕ). cell n a i k) j)

unfoldable pub turn_rows : ℕ → ℕ → ℕ → Float → Float → List Float → List Float
turn_rows n p q c s a = grid n n (λ (i j : ℕ). turned_at p q c s (λ (k : ℕ). cell n a k j) i)

-- both off entries set to zero
unfoldable pub cleared : ℕ → ℕ → ℕ → List Float → List Float
cleared n p q g = set (set g (p * n + q) zero64) (q * n + p) zero64

-- columns, then rows of the result, then both off entries, then the basis; both are stored once all of this is done
unfoldable pub turned : ℕ → ℕ → ℕ → Float → Float → Eig → Made Eig
turned n p q c s e =
    bind (stored (cleared n p q (turn_rows n p q c s (turn_columns n p q c s e.g)))) (λ g.
    bind (stored (turn_columns n p q c s e.v)) (λ v.
    Ok (eig g v)))

-- a rotation, unless the pair is skipped
unfoldable pub rotate : ℕ → ℕ → ℕ → ℕ → Eig → Made Eig
rotate mode n p q e =
    let t = tangent_of (slope_of (cell n e.g p p) (cell n e.g q q) (cell n e.g p q)) in
    let c = cosine_of t in
    pick (skipped mode n e.g p q) (Ok e) (turned n p q c (times t c) e)

-- ---- sweeps
unfoldable pub sweep : ℕ → ℕ → Eig → Made Eig
sweep mode n e = along (pairs n) (λ (x : ℕ × ℕ). rotate mode n x.0 x.1) e

-- the sweeps made, whether the matrix is settled at the end, and the matrices then
pub record Swept : Type 0 where
  pub count : ℕ
  pub settles : Bool
  pub eig : Eig

abbrev pub swept : ℕ → Bool → Eig → Swept
swept c b e = record { count = c; settles = b; eig = e }

-- at most `left` more sweeps after c of them; b says whether the matrix is settled by now
unfoldable pub sweeps_from : ℕ → Bool → ℕ → ℕ → ℕ → Eig → Made Swept
sweeps_from zero b mode n c e = Ok (swept c b e)
sweeps_from (suc left) true mode n c e = Ok (swept c true e)
sweeps_from (suc left) false mode n c e = bind (sweep mode n e) (λ x. sweeps_from left (settled mode n x.g) mode n (suc c) x)

abbrev pub most_sweeps : ℕ
most_sweeps = 50

-- before each of at most 50 sweeps, stop if the matrix is settled
unfoldable pub diagonalized : ℕ → ℕ → Eig → Made Swept
diagonalized mode n e = sweeps_from most_sweeps (settled mode n e.g) mode n 0 e
