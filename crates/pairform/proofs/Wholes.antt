-- The columns and the basis are finite and keep their lengths: as made from a slab that was stored, and by every pass. Assumes nothing.
use Rattle.std.specs.Prelude.{Ok}
use mathlib.Core.Path.{◌≡◌, ap, ◌∙◌, sym}
use Prim.Native.Nat.{ℕ, zero, suc, ◌+◌, ◌*◌}
use native.Mathlib.Omega.{arith}
use mathlib.Core.Bool.{Bool, true, false}
use mathlib.Core.List.{List}
use lib.ListN.{length}
use lib.Ieee.{Float, nan}
use Rattle.numbers.specs.Arithmetic.{times}
use Rattle.answers.specs.Outcome.{bind}
use Rattle.answers.proofs.Outcomes.{bind_ok, ok_inj}
use Rattle.lists.specs.Lists.{pick, pairs}
use Rattle.lists.specs.Floats.{all_finite, stored}
use Rattle.lists.proofs.Cells.{cell_lt}
use Rattle.lists.proofs.Floats.{finite_get_d_lem, stored_is}
use Rattle.lists.proofs.Finite.{grid_finite}
use Rattle.lists.proofs.Keeps.{along_keeps}
use Rattle.lists.proofs.Tables.{length_grid}
use Rattle.cutform.specs.Rotation.{tangent_of, slope_of, cosine_of}
use Rattle.cutform.proofs.Whole.{eye_length, eye_finite}
use Rattle.pairform.specs.Columns.{turn_stored, dot, skipped}
use Rattle.pairform.specs.Passes.{Svd, svd, turned_svd, Pass, passed, rotate, pass, Passes, passes_from, most_passes, orthogonalized, start}

-- ---- n columns of m numbers, and a basis of n by n
pub record Whole (m n : ℕ) (e : Svd) : Type 0 where
  pub columns_length : length e.columns ≡ n * m
  pub basis_length : length e.basis ≡ n * n
  pub columns_finite : all_finite e.columns ≡ true
  pub basis_finite : all_finite e.basis ≡ true

-- the basis as made, and the slab's numbers as columns
pub start_whole : (m n : ℕ) (s : List Float) → length s ≡ m * n → all_finite s ≡ true → Whole m n (start m n s)
unfolding start
start_whole m n s l f = record {
  columns_length = length_grid n m _;
  basis_length = eye_length n;
  columns_finite = grid_finite n m _ (λ col row a b. finite_get_d_lem s (row * n + col) nan (cell_lt row m n col (length s) b a (omega arith)) f);
  basis_finite = eye_finite n;
}

module _ (m n : ℕ) where
  turned_whole : (p q : ℕ) (c s : Float) (e d : Svd) → turned_svd m n p q c s e ≡ Ok d → Whole m n d
  unfolding turned_svd turn_stored
  turned_whole p q c s e d h =
      let (a, x, g) = bind_ok (stored (turn_stored m n p q c s e.columns)) (λ a. bind (stored (turn_stored n n p q c s e.basis)) (λ v. Ok (svd a v))) d h in
      let (v, y, k) = bind_ok (stored (turn_stored n n p q c s e.basis)) (λ v. Ok (svd a v)) d g in
      let (i, t) = stored_is (turn_stored m n p q c s e.columns) a x in
      let (j, u) = stored_is (turn_stored n n p q c s e.basis) v y in
      rw (← ok_inj k) (record { columns_length = ap length (sym i) ∙ length_grid n m _; basis_length = ap length (sym j) ∙ length_grid n n _; columns_finite = t; basis_finite = u })

  pub rotate_whole : (p q : ℕ) (x y : Pass) → Whole m n x.svd → rotate m n p q x ≡ Ok y → Whole m n y.svd
  unfolding rotate pick
  rotate_whole p q x y w h =
      let a = x.svd.columns in
      let t = tangent_of (slope_of (dot m a p p) (dot m a q q) (dot m a p q)) in
      go (skipped (dot m a p q) (dot m a p p) (dot m a q q)) (cosine_of t) (times (cosine_of t) t) h
    where
      go : (b : Bool) (c s : Float) → pick b (Ok x) (bind (turned_svd m n p q c s x.svd) (λ e. Ok (passed e false))) ≡ Ok y → Whole m n y.svd
      go true c s h = rw (← ok_inj h) w
      go false c s h = let (e, t, g) = bind_ok (turned_svd m n p q c s x.svd) (λ e. Ok (passed e false)) y h in rw (← ok_inj g) (turned_whole p q c s x.svd e t)

  pub pass_whole : (e : Svd) (y : Pass) → Whole m n e → pass m n e ≡ Ok y → Whole m n y.svd
  unfolding pass
  pass_whole e y w h = along_keeps (λ (x : Pass). Whole m n x.svd) (λ (x : ℕ × ℕ). rotate m n x.0 x.1) (λ x a b p g. rotate_whole x.0 x.1 a b p g) (pairs n) (passed e true) y w h

  from_whole : (fuel : ℕ) (b : Bool) (c : ℕ) (e : Svd) (w : Passes) → Whole m n e → passes_from fuel b m n c e ≡ Ok w → Whole m n w.svd
  unfolding passes_from
  from_whole zero b c e w p h = rw (← ok_inj h) p
  from_whole (suc fuel) true c e w p h = rw (← ok_inj h) p
  from_whole (suc fuel) false c e w p h =
      let (x, t, g) = bind_ok (pass m n e) (λ x. passes_from fuel x.quiet m n (suc c) x.svd) w h in
      from_whole fuel x.quiet (suc c) x.svd w (pass_whole e x p t) g

  pub passes_whole : (e : Svd) (w : Passes) → Whole m n e → orthogonalized m n e ≡ Ok w → Whole m n w.svd
  unfolding orthogonalized
  passes_whole e w p h = from_whole most_passes false 0 e w p h
