-- Passes of which no number is looked at before the end, and what is held and planned on the way. Definitions for loops only.
use Rattle.std.specs.Prelude.{ℕ, ◌+◌, ◌-◌, ◌*◌, ◌<◌, ◌≡◌, false, List, length, Float, Option, Some, None}
use Rattle.numbers.specs.Arithmetic.{times}
use Rattle.lists.specs.Lists.{pick, iter, iter_from}
use Rattle.cutform.specs.Rotation.{tangent_of, slope_of, cosine_of}
use Rattle.pairform.specs.Columns.{turn_stored, dot, skipped}
use Rattle.columns.specs.Loops.{squares}
use Rattle.pairform.specs.Passes.{svd, Pass, passed}
use Rattle.passes.specs.declared.Angle.{Angle}
use Rattle.passes.specs.declared.Pace.{Pace}

-- `rotate` with nothing looked at
unfoldable pub rotate_free : ℕ → ℕ → ℕ → ℕ → Pass → Pass
rotate_free m n p q x =
    let a = x.svd.columns in
    let alpha = dot m a p q in
    let bp = dot m a p p in
    let bq = dot m a q q in
    let t = tangent_of (slope_of bp bq alpha) in
    let c = cosine_of t in
    pick (skipped alpha bp bq) x (passed (svd (turn_stored m n p q c (times c t) a) (turn_stored n n p q c (times c t) x.svd.basis)) false)

-- the pairs (p, q) of one p
unfoldable pub row_free : ℕ → ℕ → ℕ → Pass → Pass
row_free m n p x = iter_from (p + 1) n (rotate_free m n p) x

unfoldable pub pass_free : ℕ → ℕ → Pass → Pass
pass_free m n x = iter n (row_free m n) x

-- n columns of m numbers, and their sums of squares
pub record Squared (m n : ℕ) (a ss : List Float) : Type 0 where
  pub long : length a ≡ n * m
  pub count : length ss ≡ n
  pub kept : ss ≡ squares m n a

-- those, and a basis of n by n
pub record Beside (m n : ℕ) (a v ss : List Float) : Type 0 where
  pub squared : Squared m n a ss
  pub wide : length v ≡ n * n

-- the angle by which a pair of columns with these sums is turned, unless it is skipped
unfoldable pub plan_of : Float → Float → Float → Option Angle
plan_of alpha low high =
    let t = tangent_of (slope_of low high alpha) in
    let c = cosine_of t in
    pick (skipped alpha low high) None (Some (record { c = c; s = times c t }))

-- that of columns p and q as they stand
abbrev pub plan_at : ℕ → List Float → ℕ → ℕ → Option Angle
plan_at m a p q = plan_of (dot m a p q) (dot m a p p) (dot m a q q)

-- n columns of m numbers after the plan k for columns p and q
unfoldable pub by_plan : ℕ → ℕ → ℕ → ℕ → Option Angle → List Float → List Float
by_plan m n p q None a = a
by_plan m n p q (Some x) a = turn_stored m n p q x.c x.s a

-- rows p and p + 1 in step: the first as far as column q, the second a column behind
unfoldable pub in_step : ℕ → ℕ → ℕ → ℕ → Pass → Pass
in_step m n p q x = iter_from (p + 1 + 1) (q - 1) (rotate_free m n (p + 1)) (iter_from (p + 1) q (rotate_free m n p) x)

-- columns with their sums of squares, and the plans for (p, q) and (p + 1, q - 1)
pub record Paced (m n p q : ℕ) (a ss : List Float) (k : Pace) : Type 0 where
  pub squared : Squared m n a ss
  pub ahead : q < n → k.first ≡ plan_at m a p q
  pub behind : k.second ≡ plan_at m a (p + 1) (q - 1)
