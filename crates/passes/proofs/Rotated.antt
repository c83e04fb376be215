-- A rotation, a pass row by row, and passes one after another, in the form that proofs of code cite. Assumes nothing.
use mathlib.Core.Path.{◌≡◌, refl, sym, ap, ◌∙◌}
use Prim.Native.Nat.{ℕ, suc, ◌+◌, ◌-◌, ◌*◌, ◌<◌, ◌≤◌}
use native.Mathlib.Numerals.{add-one}
use native.Mathlib.Omega.{arith}
use mathlib.Core.Bool.{Bool, true, false}
use mathlib.Core.List.{List}
use lib.ListN.{length}
use lib.Ieee.{Float}
use Rattle.std.specs.Prelude.{Ok, Err}
use Rattle.answers.specs.Outcome.{Made, bind, staged, stage_of, Stage}
use Rattle.numbers.specs.Arithmetic.{times}
use Rattle.lists.specs.Lists.{pick}
use Rattle.lists.specs.Floats.{at, all_finite, stored}
use Rattle.lists.specs.Walks.{turning}
use Rattle.lists.proofs.Keeps.{turning_keeps}
use Rattle.lists.proofs.Pairs.{along_pairs}
use Rattle.lists.proofs.Stages.{stored_staged, staged_on, staged_last, stage_stop, turning_start}
use Rattle.cutform.specs.Rotation.{tangent_of, slope_of, cosine_of, eye}
use Rattle.cutform.proofs.Whole.{eye_length, eye_finite}
use Rattle.pairform.specs.Columns.{turn_stored, dot, skipped}
use Rattle.pairform.specs.Passes.{Svd, svd, turned_svd, Pass, passed, rotate, pass, Passes, made, passes_from, most_passes, orthogonalized}
use Rattle.columns.specs.Loops.{squares}
use Rattle.passes.specs.Loops.{pass_row, Held}
use Rattle.columns.proofs.TwoColumns.{squares_length, squares_at}
use Rattle.pairform.proofs.Wholes as wholes

-- ---- one rotation
module _ (m n p q : ℕ) (c s : Float) (a v a' v' : List Float) (ea : a' ≡ turn_stored m n p q c s a) (ev : v' ≡ turn_stored n n p q c s v) (r : Stage) (er : r ≡ stage_of (stored a')) where
  opened : turned_svd m n p q c s (svd a v) ≡ bind (staged r a') (λ x. bind (stored v') (λ y. Ok (svd x y)))
  unfolding turned_svd
  opened = rw (← ea, ← ev, stored_staged a' r er)

  pub turned_stop : (i : ℕ) → r ≡ Err i → turned_svd m n p q c s (svd a v) ≡ Err i
  unfolding staged
  turned_stop i h = opened ∙ rw h

  pub turned_end : r ≡ Ok tt → (t : Stage) → t ≡ stage_of (stored v') → turned_svd m n p q c s (svd a v) ≡ staged t (svd a' v')
  turned_end h t et =
      opened ∙ staged_on r a' (λ x. bind (stored v') (λ y. Ok (svd x y))) h
      ∙ ap (λ (o : Made (List Float)). bind o (λ y. Ok (svd a' y))) (stored_staged v' t et)
      ∙ staged_last t v' (λ y. svd a' y)

-- ---- a rotation, unless the pair is skipped
module _ (m n p q : ℕ) (a v ss : List Float) (quiet : Bool) (es : ss ≡ squares m n a) (h : p < q) (g : q < n) (alpha : Float) (el : alpha ≡ dot m a p q) (b : Bool) (eb : b ≡ skipped alpha (at ss p) (at ss q)) where
  low : at ss p ≡ dot m a p p
  low = squares_at m n a ss es p (omega arith)

  high : at ss q ≡ dot m a q q
  high = squares_at m n a ss es q g

  test : skipped (dot m a p q) (dot m a p p) (dot m a q q) ≡ b
  test = sym (eb ∙ rw (el, low, high))

  pub rotate_skip : b ≡ true → rotate m n p q (passed (svd a v) quiet) ≡ Ok (passed (svd a v) quiet)
  unfolding rotate pick
  rotate_skip t = rw (test, t)

  pub rotate_go : b ≡ false → (x t c : Float)
      → x ≡ slope_of (at ss p) (at ss q) alpha → t ≡ tangent_of x → c ≡ cosine_of t
      → (o : Made Svd) → turned_svd m n p q c (times c t) (svd a v) ≡ o
      → rotate m n p q (passed (svd a v) quiet) ≡ bind o (λ e. Ok (passed e false))
  unfolding rotate pick
  rotate_go f x t c ex et ec o d =
      let y : slope_of (dot m a p p) (dot m a q q) (dot m a p q) ≡ x = sym (ex ∙ rw (el, low, high)) in
      rw (test, f, y, ← et, ← ec, d)

-- ---- a row of a pass keeps the columns and the basis whole
row_whole : (m n p : ℕ) (x y : Pass) → wholes.Whole m n x.svd → pass_row m n p x ≡ Ok y → wholes.Whole m n y.svd
unfolding pass_row
row_whole m n p x y w h =
    turning_keeps (λ (z : Pass). wholes.Whole m n z.svd) (λ (q : ℕ). rotate m n p q) (λ q a b u g. wholes.rotate_whole m n p q a b u g) (n - (p + 1)) (p + 1) x y w h

-- ---- what is held before the first pass, and stays held
pub held_first : (m n : ℕ) (a v ss : List Float) → length a ≡ n * m → all_finite a ≡ true → v ≡ eye n → ss ≡ squares m n a → Held m n a v ss
held_first m n a v ss long fine ev es = record {
  long = long;
  wide = ap length ev ∙ eye_length n;
  fine = fine;
  basis_fine = ap all_finite ev ∙ eye_finite n;
  count = squares_length m n a ss es;
  kept = es;
}

module _ (m n : ℕ) (a v ss a' v' ss' : List Float) (H : Held m n a v ss) (es : ss' ≡ squares m n a') where
  still : wholes.Whole m n (svd a v)
  still = record { columns_length = H.long; basis_length = H.wide; columns_finite = H.fine; basis_finite = H.basis_fine }

  held : wholes.Whole m n (svd a' v') → Held m n a' v' ss'
  held W = record { long = W.columns_length; wide = W.basis_length; fine = W.columns_finite; basis_fine = W.basis_finite; count = squares_length m n a' ss' es; kept = es }

  pub rotate_held : (p q : ℕ) (b b' : Bool) → rotate m n p q (passed (svd a v) b) ≡ Ok (passed (svd a' v') b') → Held m n a' v' ss'
  rotate_held p q b b' e = held (wholes.rotate_whole m n p q (passed (svd a v) b) (passed (svd a' v') b') still e)

  pub row_held : (p : ℕ) (b b' : Bool) → pass_row m n p (passed (svd a v) b) ≡ Ok (passed (svd a' v') b') → Held m n a' v' ss'
  row_held p b b' e = held (row_whole m n p (passed (svd a v) b) (passed (svd a' v') b') still e)

  pub pass_held : (b' : Bool) → pass m n (svd a v) ≡ Ok (passed (svd a' v') b') → Held m n a' v' ss'
  pass_held b' e = held (wholes.pass_whole m n (svd a v) (passed (svd a' v') b') still e)

-- ---- row by row
-- a walk, by what is left of it: a turn that isn't finite is the answer
pub walk_stop : {A : Type 0} (T : Made A) (hi i : ℕ) (f : ℕ → A → Made A) (a : A) → T ≡ turning (hi - i) i f a → i < hi → (x : ℕ) → f i a ≡ Err x → T ≡ Err x
unfolding staged
walk_stop T hi i f a e l x h = stage_stop T hi i f a e l (Err x) a h x a refl

pub pass_rows : (m n : ℕ) (e : Svd) → pass m n e ≡ turning (n - 0) 0 (pass_row m n) (passed e true)
unfolding pass pass_row
pass_rows m n e = along_pairs n (λ (x : ℕ × ℕ). rotate m n x.0 x.1) (passed e true) ∙ turning_start n (pass_row m n) (passed e true)

-- ---- passes one after another, by what is left: T is the whole
module _ (T : Made Passes) (m n hi c : ℕ) (b : Bool) (e : Svd) (d : T ≡ passes_from (hi - c) b m n c e) where
  module _ (l : c < hi) where
    left : hi - c ≡ suc (hi - (c + 1))
    left = omega arith

    pub passes_quiet : b ≡ true → T ≡ Ok (made c e)
    unfolding passes_from
    passes_quiet h = d ∙ rw (left, h)

    pub passes_stop : b ≡ false → (i : ℕ) → pass m n e ≡ Err i → T ≡ Err i
    unfolding passes_from
    passes_stop h i s = d ∙ rw (left, h, s)

    pub passes_more : b ≡ false → (x : Pass) → pass m n e ≡ Ok x → T ≡ passes_from (hi - (c + 1)) x.quiet m n (c + 1) x.svd
    unfolding passes_from
    passes_more h x s = d ∙ rw (left, h, s, add-one)

  pub passes_done : c ≤ hi → hi ≤ c → T ≡ Ok (made hi e)
  unfolding passes_from
  passes_done k l = let z : hi - c ≡ 0 = omega arith in let y : c ≡ hi = omega arith in d ∙ rw (z, y)

pub passes_start : (m n : ℕ) (e : Svd) → orthogonalized m n e ≡ passes_from (most_passes - 0) false m n 0 e
unfolding orthogonalized
passes_start m n e = refl
