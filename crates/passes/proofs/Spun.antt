-- Plans and rotations by them, in the form that proofs of code cite. Assumes nothing.
use mathlib.Core.Path.{◌≡◌, refl, sym, ap, ◌∙◌}
use Prim.Native.Nat.{ℕ, ◌+◌, ◌*◌, ◌<◌}
use native.Mathlib.Omega.{arith}
use mathlib.Core.Bool.{Bool, true, false, not, ◌&&◌}
use mathlib.Core.List.{List}
use lib.ListN.{length, set}
use lib.Ieee.{Float}
use Rattle.numbers.specs.Arithmetic.{times}
use Rattle.lists.specs.Lists.{pick}
use Rattle.lists.specs.Floats.{at, all_finite}
use Rattle.lists.proofs.Tables.{length_grid}
use Rattle.cutform.specs.Rotation.{slope_of, tangent_of, cosine_of}
use Rattle.pairform.specs.Columns.{turn_stored, dot, skipped}
use Rattle.columns.proofs.TwoColumns.{squares_at, squares_length, squared_again, turned_length, turned_squares}
use Rattle.pairform.specs.Passes.{svd, passed, pass, Passes, orthogonalized}
use Rattle.passes.specs.Loops.{Held}
use Rattle.std.specs.Prelude.{Ok, Option, Some, None, is_some, is_none}
use Rattle.answers.specs.Outcome.{Made}
use Rattle.passes.specs.declared.Angle.{Angle}
use Rattle.passes.specs.Free.{rotate_free, pass_free, Squared, Beside, plan_of, plan_at, by_plan}
use Rattle.passes.proofs.Backward.{squares_fine, pass_same}

-- ---- plans
-- what `is_none` says, as an equation for its answer
pub none_told : (k : Option Angle) (b : Bool) → is_some k ≡ not b → b ≡ is_none k
none_told None true e = refl
none_told None false e = e
none_told (Some x) true e = e
none_told (Some x) false e = refl

-- a pair that is skipped
pub plan_none : (alpha low high : Float) (skip : Bool) → skip ≡ skipped alpha low high → skip ≡ true → None ≡ plan_of alpha low high
unfolding plan_of pick
plan_none alpha low high skip e h = rw (← e, h)

-- a pair that is turned, by its slope x and its tangent t
pub plan_turned : (alpha low high : Float) (skip : Bool) (x t c : Float) → skip ≡ skipped alpha low high → skip ≡ false → x ≡ slope_of low high alpha → t ≡ tangent_of x → c ≡ cosine_of t
    → Some (record { c = c; s = times c t }) ≡ plan_of alpha low high
unfolding plan_of pick
plan_turned alpha low high skip x t c e h ex et ec = rw (← e, h, ec, et, ex)

-- by what is kept of the sums of squares
pub planned_at : (m n : ℕ) (a ss : List Float) (p w : ℕ) (x : Float) (k : Option Angle) → Squared m n a ss → p < n → w < n → x ≡ dot m a p w → k ≡ plan_of x (at ss p) (at ss w) → k ≡ plan_at m a p w
planned_at m n a ss p w x k S h g ex P = rw (ex, squares_at m n a ss S.kept p h, squares_at m n a ss S.kept w g) at P

-- the plan of the column that follows
pub moved : (m : ℕ) (a : List Float) (p q w n : ℕ) (k : Option Angle) → (q + 1 < n → w ≡ q + 1) → k ≡ plan_at m a p w → q + 1 < n → k ≡ plan_at m a p (q + 1)
moved m a p q w n k e P h = rw (e h) at P

-- ---- columns and basis by a plan
module _ (m n p q : ℕ) (a u : List Float) where
  pub by_none : (k : Option Angle) → k ≡ None → a ≡ by_plan m n p q k a
  unfolding by_plan
  by_none k h = rw h

  pub by_turn : (k : Option Angle) (x : Angle) → k ≡ Some x → u ≡ turn_stored m n p q x.c x.s a → u ≡ by_plan m n p q k a
  unfolding by_plan
  by_turn k x h e = rw h e

  pub by_length : (k : Option Angle) → length a ≡ n * m → u ≡ by_plan m n p q k a → length u ≡ n * m
  unfolding by_plan turn_stored
  by_length None long e = ap length e ∙ long
  by_length (Some x) long e = ap length e ∙ length_grid n m _

-- columns turned, and their sums of squares anew
pub squared_spun : (m n p q : ℕ) (c s : Float) (a u ss : List Float) (x y : Float) → Squared m n a ss → p < q → q < n → u ≡ turn_stored m n p q c s a → x ≡ dot m u p p → y ≡ dot m u q q
    → Squared m n u (set (set ss p x) q y)
squared_spun m n p q c s a u ss x y S h g e ex ey =
    let kept = squared_again m n u ss p q x y S.count (omega arith) g (turned_squares m n p q c s a u e ss S.kept) ex ey in
    record { long = turned_length m n p q c s a u e; count = squares_length m n u _ kept; kept = kept }

-- a rotation by its plan
pub spun : (m n p q : ℕ) (a v a' v' : List Float) (k : Option Angle) → k ≡ plan_at m a p q → a' ≡ by_plan m n p q k a → v' ≡ by_plan n n p q k v → (b : Bool)
    → passed (svd a' v') (is_none k && b) ≡ rotate_free m n p q (passed (svd a v) b)
unfolding rotate_free by_plan plan_of pick
spun m n p q a v a' v' k P ea ev b = rw (ea, ev, P) (go (skipped (dot m a p q) (dot m a p p) (dot m a q q)))
  where
    t : Float
    t = tangent_of (slope_of (dot m a p p) (dot m a q q) (dot m a p q))

    c : Float
    c = cosine_of t

    plan : Bool → Option Angle
    plan y = pick y None (Some (record { c = c; s = times c t }))

    go : (y : Bool)
        → passed (svd (by_plan m n p q (plan y) a) (by_plan n n p q (plan y) v)) (is_none (plan y) && b)
        ≡ pick y (passed (svd a v) b) (passed (svd (turn_stored m n p q c (times c t) a) (turn_stored n n p q c (times c t) v)) false)
    go true = refl
    go false = refl

-- ---- a pass after which all is finite
module _ (m n : ℕ) (a v ss a' v' ss' : List Float) (B : Beside m n a' v' ss') (fv : all_finite v' ≡ true) (fs : all_finite ss' ≡ true) where
  fa : all_finite a' ≡ true
  fa = squares_fine m n a' ss' B.squared.long B.squared.count B.squared.kept fs

  pub now_held : Held m n a' v' ss'
  now_held = record { long = B.squared.long; wide = B.wide; fine = fa; basis_fine = fv; count = B.squared.count; kept = B.squared.kept }

  pub pass_staged : Held m n a v ss → (b : Bool) → passed (svd a' v') b ≡ pass_free m n (passed (svd a v) true) → pass m n (svd a v) ≡ Ok (passed (svd a' v') b)
  pass_staged H b e = pass_same m n (svd a v) (passed (svd a' v') b) (H.long, H.wide) e (fa, fv)

pub held_beside : (m n : ℕ) (a v ss : List Float) → Held m n a v ss → Beside m n a v ss
held_beside m n a v ss H = record { squared = record { long = H.long; count = H.count; kept = H.kept }; wide = H.wide }

-- the same from what was kept
pub again : (m n : ℕ) (a v a' v' : List Float) → a' ≡ a → v' ≡ v → (t : Made Passes) → orthogonalized m n (svd a' v') ≡ t → orthogonalized m n (svd a v) ≡ t
again m n a v a' v' ea ev t e = ap (λ (x : List Float). orthogonalized m n (svd x v)) (sym ea) ∙ ap (λ (x : List Float). orthogonalized m n (svd a' x)) (sym ev) ∙ e
