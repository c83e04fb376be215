-- A rotation step by step, in the form that proofs of code cite. Assumes nothing.
use mathlib.Core.Path.{◌≡◌, sym, ap, ◌∙◌}
use Prim.Native.Nat.{ℕ, ◌*◌, ◌<◌}
use native.Mathlib.Omega.{arith}
use mathlib.Core.Bool.{Bool, true, false}
use mathlib.Core.List.{List}
use lib.ListN.{length}
use lib.Ieee.{Float}
use Rattle.std.specs.Prelude.{Ok, Err}
use Rattle.answers.specs.Outcome.{Made, bind, staged, stage_of, Stage}
use Rattle.numbers.specs.Arithmetic.{times}
use Rattle.lists.specs.Lists.{pick}
use Rattle.lists.specs.Floats.{cell, stored}
use Rattle.lists.proofs.Stages.{stored_staged, staged_on, staged_stop, staged_last}
use Rattle.cutform.specs.Rotation.{tangent_of, slope_of, cosine_of}
use Rattle.cutform.specs.Modes.{skipped}
use Rattle.cutform.specs.Sweeps.{Eig, eig, turn_columns, turn_rows, cleared, turned, rotate}
use Rattle.rotation.specs.Pairs.{turn_pairs}
use Rattle.rotation.proofs.Turned.{columns_turned, rows_turned}

-- ---- columns and rows of a square matrix
module _ (n p q : ℕ) (c s : Float) (l u : List Float) (long : length l ≡ n * n) (h : p < q) (g : q < n) where
  pub turn_columns_is : u ≡ turn_pairs n n p q c s l → u ≡ turn_columns n p q c s l
  unfolding turn_columns
  turn_columns_is e = columns_turned n n p q c s l u long (λ d. omega arith) (omega arith) g e

  pub turn_rows_is : u ≡ turn_pairs n 1 (p * n) (q * n) c s l → u ≡ turn_rows n p q c s l
  unfolding turn_rows
  turn_rows_is e = rows_turned n n p q c s l u long (λ d. omega arith) (omega arith) g e

-- ---- one rotation
module _ (n p q : ℕ) (c s : Float) (g v g' v' : List Float) (eg : g' ≡ cleared n p q (turn_rows n p q c s (turn_columns n p q c s g))) (ev : v' ≡ turn_columns n p q c s v) (r : Stage) (er : r ≡ stage_of (stored g')) where
  opened : turned n p q c s (eig g v) ≡ bind (staged r g') (λ x. bind (stored v') (λ y. Ok (eig x y)))
  unfolding turned
  opened = rw (← eg, ← ev, stored_staged g' r er)

  pub turned_stop : (i : ℕ) (z : Eig) → r ≡ Err i → turned n p q c s (eig g v) ≡ staged (Err i) z
  turned_stop i z h = opened ∙ staged_stop r g' (λ x. bind (stored v') (λ y. Ok (eig x y))) i z h

  pub turned_end : r ≡ Ok tt → (t : Stage) → t ≡ stage_of (stored v') → turned n p q c s (eig g v) ≡ staged t (eig g' v')
  turned_end h t et =
      opened ∙ staged_on r g' (λ x. bind (stored v') (λ y. Ok (eig x y))) h
      ∙ ap (λ (o : Made (List Float)). bind o (λ y. Ok (eig g' y))) (stored_staged v' t et)
      ∙ staged_last t v' (λ y. eig g' y)

-- ---- a rotation, unless the pair is skipped
module _ (mode n p q : ℕ) (g v : List Float) (b : Bool) (eb : b ≡ skipped mode n g p q) where
  pub rotate_skip : b ≡ true → rotate mode n p q (eig g v) ≡ staged (Ok tt) (eig g v)
  unfolding rotate pick staged
  rotate_skip h = let t : skipped mode n g p q ≡ true = sym eb ∙ h in rw t

  pub rotate_go : b ≡ false → (x t c : Float)
      → x ≡ slope_of (cell n g p p) (cell n g q q) (cell n g p q) → t ≡ tangent_of x → c ≡ cosine_of t
      → (r : Stage) (e : Eig) → turned n p q c (times t c) (eig g v) ≡ staged r e
      → rotate mode n p q (eig g v) ≡ staged r e
  unfolding rotate pick
  rotate_go h x t c ex et ec r e d = let f : skipped mode n g p q ≡ false = sym eb ∙ h in rw (f, ← ex, ← et, ← ec) d
