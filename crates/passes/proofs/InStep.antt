-- Two rows of a pass in step: turns of four different columns may change places. Assumes nothing.
use mathlib.Core.Path.{◌≡◌, refl, sym, ap, ◌∙◌}
use Prim.Native.Nat.{ℕ, zero, suc, ◌+◌, ◌-◌, ◌<◌, ◌≤◌}
use native.Mathlib.Omega.{arith}
use mathlib.Core.Bool.{Bool, true, false, ◌&&◌}
use mathlib.Core.List.{List}
use lib.Dec.{eqb}
use lib.Ieee.{Float, nan}
use Rattle.numbers.specs.Arithmetic.{times}
use Rattle.lists.specs.Lists.{pick, iter, iter_from}
use Rattle.lists.specs.Floats.{at, cell}
use Rattle.lists.proofs.Tables.{get_or_grid_lem, grid_same}
use Rattle.lists.proofs.Tests.{eqb_is, eqb_no}
use Rattle.lists.proofs.Sums.{sum_same}
use Rattle.lists.proofs.Turns.{iter_more, from_none, from_more}
use Rattle.cutform.specs.Rotation.{tangent_of, slope_of, cosine_of, turned_at}
use Rattle.pairform.specs.Columns.{turn_stored, dot, skipped}
use Rattle.pairform.specs.Passes.{svd, Pass, passed}
use Rattle.std.specs.Prelude.{Option, Some, None, is_none}
use Rattle.passes.specs.declared.Angle.{Angle}
use Rattle.passes.specs.declared.Pace.{Pace}
use Rattle.passes.specs.Free.{rotate_free, row_free, in_step, by_plan, Squared, plan_of, plan_at, Paced}
use Rattle.passes.proofs.Spun.{planned_at, moved, spun}

-- ---- a line of numbers
module _ (p q : ℕ) (c s : Float) (f : ℕ → Float) where
  turned_not : (k : ℕ) → ¬ (k ≡ p) → ¬ (k ≡ q) → turned_at p q c s f k ≡ f k
  unfolding turned_at pick
  turned_not k a b = rw (eqb_no k p a, eqb_no k q b)

-- f turned at p and q is g, and f turned at r and t is h: then g turned at r and t is h turned at p and q
module _ (p q r t n : ℕ) (hp : p < n) (hq : q < n) (hr : r < n) (ht : t < n) (pr : ¬ (p ≡ r)) (pt : ¬ (p ≡ t)) (qr : ¬ (q ≡ r)) (qt : ¬ (q ≡ t))
    (c s d e : Float) (f g h : ℕ → Float)
    (eg : (k : ℕ) → k < n → g k ≡ turned_at p q c s f k) (eh : (k : ℕ) → k < n → h k ≡ turned_at r t d e f k) where
  g_kept : (k : ℕ) → k < n → ¬ (k ≡ p) → ¬ (k ≡ q) → g k ≡ f k
  g_kept k l a b = eg k l ∙ turned_not p q c s f k a b

  h_kept : (k : ℕ) → k < n → ¬ (k ≡ r) → ¬ (k ≡ t) → h k ≡ f k
  h_kept k l a b = eh k l ∙ turned_not r t d e f k a b

  lines_meet : (k : ℕ) → k < n → turned_at p q c s h k ≡ turned_at r t d e g k
  unfolding turned_at pick
  lines_meet k l = go (eqb k p) (eqb k q) (eqb k r) (eqb k t) refl refl refl refl
    where
      at_p : h p ≡ f p
      at_p = h_kept p hp pr pt

      at_q : h q ≡ f q
      at_q = h_kept q hq qr qt

      at_r : g r ≡ f r
      at_r = g_kept r hr (λ z. pr (sym z)) (λ z. qr (sym z))

      at_t : g t ≡ f t
      at_t = g_kept t ht (λ z. pt (sym z)) (λ z. qt (sym z))

      go : (x y z w : Bool) → eqb k p ≡ x → eqb k q ≡ y → eqb k r ≡ z → eqb k t ≡ w → turned_at p q c s h k ≡ turned_at r t d e g k
      go true y true w ex ey ez ew = absurd (pr (sym (eqb_is k p ex) ∙ eqb_is k r ez))
      go true y false true ex ey ez ew = absurd (pt (sym (eqb_is k p ex) ∙ eqb_is k t ew))
      go true y false false ex ey ez ew = rw (at_p, at_q, eg k l, ex, ez, ew)
      go false true true w ex ey ez ew = absurd (qr (sym (eqb_is k q ey) ∙ eqb_is k r ez))
      go false true false true ex ey ez ew = absurd (qt (sym (eqb_is k q ey) ∙ eqb_is k t ew))
      go false true false false ex ey ez ew = rw (at_p, at_q, eg k l, ex, ey, ez, ew)
      go false false true w ex ey ez ew = rw (at_r, at_t, eh k l, ex, ey, ez)
      go false false false true ex ey ez ew = rw (at_r, at_t, eh k l, ex, ey, ez, ew)
      go false false false false ex ey ez ew = rw (eg k l, eh k l, ex, ey, ez, ew)

-- ---- columns
module _ (m n p q : ℕ) (c s : Float) (l : List Float) where
  cell_turned : (col row : ℕ) → col < n → row < m → cell m (turn_stored m n p q c s l) col row ≡ turned_at p q c s (λ (k : ℕ). cell m l k row) col
  unfolding turn_stored
  cell_turned col row a b = get_or_grid_lem n m (λ (i j : ℕ). turned_at p q c s (λ (k : ℕ). cell m l k j) i) col row nan a b

  cell_kept : (col row : ℕ) → col < n → row < m → ¬ (col ≡ p) → ¬ (col ≡ q) → cell m (turn_stored m n p q c s l) col row ≡ cell m l col row
  cell_kept col row a b h g = cell_turned col row a b ∙ turned_not p q c s (λ (k : ℕ). cell m l k row) col h g

  -- columns that aren't turned keep their product
  pub dot_kept : (i j : ℕ) → i < n → j < n → ¬ (i ≡ p) → ¬ (i ≡ q) → ¬ (j ≡ p) → ¬ (j ≡ q) → dot m (turn_stored m n p q c s l) i j ≡ dot m l i j
  unfolding dot
  dot_kept i j a b ip iq jp jq = sum_same m _ _ (λ row h. rw (cell_kept i row a h ip iq, cell_kept j row b h jp jq))

module _ (n p q r t : ℕ) (hp : p < n) (hq : q < n) (hr : r < n) (ht : t < n) (pr : ¬ (p ≡ r)) (pt : ¬ (p ≡ t)) (qr : ¬ (q ≡ r)) (qt : ¬ (q ≡ t)) where
  turns_meet : (m : ℕ) (c s d e : Float) (l : List Float) → turn_stored m n p q c s (turn_stored m n r t d e l) ≡ turn_stored m n r t d e (turn_stored m n p q c s l)
  unfolding turn_stored
  turns_meet m c s d e l = grid_same n m _ _ (λ col row a b. lines_meet p q r t n hp hq hr ht pr pt qr qt c s d e (λ (k : ℕ). cell m l k row)
      (λ (k : ℕ). cell m (turn_stored m n p q c s l) k row) (λ (k : ℕ). cell m (turn_stored m n r t d e l) k row)
      (λ k h. cell_turned m n p q c s l k row h b) (λ k h. cell_turned m n r t d e l k row h b) col a)

  -- ---- rotations
  module _ (m : ℕ) (x : Pass) where
    abbrev a : List Float
    a = x.svd.columns

    abbrev tangent : ℕ → ℕ → Float
    tangent i j = tangent_of (slope_of (dot m a i i) (dot m a j j) (dot m a i j))

    -- y with columns i and j turned as they stand in x
    abbrev like : ℕ → ℕ → Pass → Pass
    like i j y =
        let c = cosine_of (tangent i j) in
        let s = times (cosine_of (tangent i j)) (tangent i j) in
        pick (skipped (dot m a i j) (dot m a i i) (dot m a j j)) y (passed (svd (turn_stored m n i j c s y.svd.columns) (turn_stored n n i j c s y.svd.basis)) false)

    first_there : rotate_free m n p q (like r t x) ≡ like p q (like r t x)
    unfolding rotate_free pick
    first_there = go (skipped (dot m a r t) (dot m a r r) (dot m a t t))
      where
        c : Float
        c = cosine_of (tangent r t)

        s : Float
        s = times (cosine_of (tangent r t)) (tangent r t)

        kept : (i j : ℕ) → i < n → j < n → ¬ (i ≡ r) → ¬ (i ≡ t) → ¬ (j ≡ r) → ¬ (j ≡ t) → dot m (turn_stored m n r t c s a) i j ≡ dot m a i j
        kept = dot_kept m n r t c s a

        after : Pass
        after = passed (svd (turn_stored m n r t c s a) (turn_stored n n r t c s x.svd.basis)) false

        go : (b : Bool) → rotate_free m n p q (pick b x after) ≡ like p q (pick b x after)
        go true = refl
        go false = rw (kept p q hp hq pr pt qr qt, kept p p hp hp pr pt pr pt, kept q q hq hq qr qt qr qt)

    likes_meet : like p q (like r t x) ≡ like r t (like p q x)
    unfolding pick
    likes_meet = go (skipped (dot m a p q) (dot m a p p) (dot m a q q)) (skipped (dot m a r t) (dot m a r r) (dot m a t t))
      where
        c : Float
        c = cosine_of (tangent p q)

        s : Float
        s = times (cosine_of (tangent p q)) (tangent p q)

        d : Float
        d = cosine_of (tangent r t)

        e : Float
        e = times (cosine_of (tangent r t)) (tangent r t)

        one : Pass → Pass
        one y = passed (svd (turn_stored m n p q c s y.svd.columns) (turn_stored n n p q c s y.svd.basis)) false

        two : Pass → Pass
        two y = passed (svd (turn_stored m n r t d e y.svd.columns) (turn_stored n n r t d e y.svd.basis)) false

        go : (b g : Bool) → pick b (pick g x (two x)) (one (pick g x (two x))) ≡ pick g (pick b x (one x)) (two (pick b x (one x)))
        go true true = refl
        go true false = refl
        go false true = refl
        go false false = rw (turns_meet m c s d e a, turns_meet n c s d e x.svd.basis)

-- two rotations of four columns
pub rotations_meet : (m n p q r t : ℕ) → p < n → q < n → r < n → t < n → ¬ (p ≡ r) → ¬ (p ≡ t) → ¬ (q ≡ r) → ¬ (q ≡ t) → (x : Pass)
    → rotate_free m n p q (rotate_free m n r t x) ≡ rotate_free m n r t (rotate_free m n p q x)
unfolding rotate_free
rotations_meet m n p q r t hp hq hr ht pr pt qr qt x =
    first_there n p q r t hp hq hr ht pr pt qr qt m x
    ∙ likes_meet n p q r t hp hq hr ht pr pt qr qt m x
    ∙ sym (first_there n r t p q hr ht hp hq (λ z. pr (sym z)) (λ z. qr (sym z)) (λ z. pt (sym z)) (λ z. qt (sym z)) m x)

-- ---- two rows
module _ (m n p : ℕ) where
  -- row p + 1 as far as it is behind column q doesn't meet (p, q)
  behind : (q : ℕ) → q < n → (k : ℕ) → p + 1 + 1 + k ≤ q → (x : Pass)
      → iter k (λ (i : ℕ). rotate_free m n (p + 1) (p + 1 + 1 + i)) (rotate_free m n p q x) ≡ rotate_free m n p q (iter k (λ (i : ℕ). rotate_free m n (p + 1) (p + 1 + 1 + i)) x)
  behind q h zero l x = refl
  behind q h (suc k) l x =
      ap (rotate_free m n (p + 1) (p + 1 + 1 + k)) (behind q h k (omega arith) x)
      ∙ sym (rotations_meet m n p q (p + 1) (p + 1 + 1 + k) (omega arith) h (omega arith) (omega arith)
      (λ z. absurd (omega (arith, z))) (λ z. absurd (omega (arith, z))) (λ z. absurd (omega (arith, z))) (λ z. absurd (omega (arith, z))) _)

  behind_from : (q : ℕ) → q < n → p + 3 ≤ q → (x : Pass)
      → iter_from (p + 1 + 1) (q - 1) (rotate_free m n (p + 1)) (rotate_free m n p q x) ≡ rotate_free m n p q (iter_from (p + 1 + 1) (q - 1) (rotate_free m n (p + 1)) x)
  unfolding iter_from
  behind_from q h l x = behind q h (q - 1 - (p + 1 + 1)) (omega arith) x

  pub step_first : (x u : Pass) → u ≡ rotate_free m n p (p + 2) (rotate_free m n p (p + 1) x) → u ≡ in_step m n p (p + 3) x
  unfolding in_step
  step_first x u e =
      let f = rotate_free m n p in
      let one : f (p + 1) x ≡ iter_from (p + 1) (p + 1 + 1) f x = from_more f x (p + 1) (p + 1) x _ (from_none f x (p + 1)) refl (omega arith) in
      let two : u ≡ iter_from (p + 1) (p + 1 + 1 + 1) f x = from_more f x (p + 1) (p + 1 + 1) _ u one (let z : p + 1 + 1 ≡ p + 2 = omega arith in rw z e) (omega arith) in
      let three : p + 1 + 1 + 1 ≡ p + 3 = omega arith in
      let last : p + 3 - 1 ≡ p + 1 + 1 = omega arith in
      let done : u ≡ iter_from (p + 1) (p + 3) f x = rw three at two in
      rw (last, ← done) (from_none (rotate_free m n (p + 1)) u (p + 1 + 1))

  pub step_more : (q : ℕ) (x s u : Pass) → p + 3 ≤ q → q < n → s ≡ in_step m n p q x → u ≡ rotate_free m n (p + 1) (q - 1) (rotate_free m n p q s) → u ≡ in_step m n p (q + 1) x
  unfolding in_step
  step_more q x s u l h es eu =
      let f = rotate_free m n p in
      let g = rotate_free m n (p + 1) in
      let y = iter_from (p + 1) q f x in
      let ahead : f q y ≡ iter_from (p + 1) (q + 1) f x = from_more f x (p + 1) q y _ refl refl (omega arith) in
      let meet : f q s ≡ iter_from (p + 1 + 1) (q - 1) g (f q y) = ap (f q) es ∙ sym (behind_from q h l y) in
      let next : u ≡ iter_from (p + 1 + 1) (q - 1 + 1) g (f q y) = from_more g (f q y) (p + 1 + 1) (q - 1) (f q s) u meet eu (omega arith) in
      let z : q - 1 + 1 ≡ q + 1 - 1 = omega arith in
      rw (← ahead) (rw z at next)

  pub step_last : (x s u : Pass) → p + 2 < n → s ≡ in_step m n p n x → u ≡ rotate_free m n (p + 1) (n - 1) s → u ≡ row_free m n (p + 1) (row_free m n p x)
  unfolding in_step row_free
  step_last x s u l es eu =
      let z : n - 1 + 1 ≡ n = omega arith in
      rw z at (from_more (rotate_free m n (p + 1)) (iter_from (p + 1) n (rotate_free m n p) x) (p + 1 + 1) (n - 1) s u es eu (omega arith))

-- two turns of a loop
pub iter_two : {S : Type 0} (f : ℕ → S → S) (s : S) (k : ℕ) (t u : S) → t ≡ iter k f s → u ≡ f (k + 1) (f k t) → u ≡ iter (k + 2) f s
iter_two f s k t u e d = let z : k + 1 + 1 ≡ k + 2 = omega arith in rw z at (iter_more f s (k + 1) (f k t) u (iter_more f s k t (f k t) e refl) d)

-- ---- plans of two pairs
module _ (m n p q : ℕ) (k : Option Angle) (a u : List Float) (e : u ≡ by_plan m n p q k a) where
  by_dot : (i j : ℕ) → i < n → j < n → ¬ (i ≡ p) → ¬ (i ≡ q) → ¬ (j ≡ p) → ¬ (j ≡ q) → dot m u i j ≡ dot m a i j
  unfolding by_plan
  by_dot i j hi hj ip iq jp jq = ap (λ (x : List Float). dot m x i j) e ∙ go k
    where
      go : (k : Option Angle) → dot m (by_plan m n p q k a) i j ≡ dot m a i j
      go None = refl
      go (Some x) = dot_kept m n p q x.c x.s a i j hi hj ip iq jp jq

  -- a plan outlasts the turn of two other columns
  pub plan_kept : (i j : ℕ) (l : Option Angle) → i < n → j < n → ¬ (i ≡ p) → ¬ (i ≡ q) → ¬ (j ≡ p) → ¬ (j ≡ q) → l ≡ plan_at m a i j → l ≡ plan_at m u i j
  plan_kept i j l hi hj ip iq jp jq P = rw (by_dot i j hi hj ip iq jp jq, by_dot i i hi hi ip iq ip iq, by_dot j j hj hj jp jq jp jq) P

module _ (m n p q w : ℕ) (a u z ss : List Float) (k r : Pace) (l : p + 3 ≤ q) (h : q < n) (hw : w < n) (lw : q ≤ w) (ew : q + 1 < n → w ≡ q + 1)
    (K : Paced m n p q a ss k) (eu : u ≡ by_plan m n p q k.first a) (ez : z ≡ by_plan m n (p + 1) (q - 1) k.second u) where
  -- what is planned after both turns, by the sums of then
  pub next_paced : (ss' : List Float) (alpha beta : Float) → Squared m n z ss' → alpha ≡ dot m u p w → beta ≡ dot m z (p + 1) q
      → r.first ≡ plan_of alpha (at ss' p) (at ss' w) → r.second ≡ plan_of beta (at ss' (p + 1)) (at ss' q) → Paced m n p (q + 1) z ss' r
  next_paced ss' alpha beta S ea eb F G =
      let still : dot m z p w ≡ dot m u p w = by_dot m n (p + 1) (q - 1) k.second u z ez p w (omega arith) hw
      (λ d. absurd (omega (arith, d))) (λ d. absurd (omega (arith, d))) (λ d. absurd (omega (arith, d))) (λ d. absurd (omega (arith, d))) in
      let y : q + 1 - 1 ≡ q = omega arith in
      record {
        squared = S;
        ahead = moved m z p q w n r.first ew (planned_at m n z ss' p w alpha r.first S (omega arith) hw (ea ∙ sym still) F);
        behind = rw y (planned_at m n z ss' (p + 1) q beta r.second S (omega arith) h eb G);
      }

-- both turns, of columns and basis
pub both_spun : (m n p q : ℕ) (a v z y ss : List Float) (k : Pace) (b : Bool) → p + 3 ≤ q → q < n → Paced m n p q a ss k
    → z ≡ by_plan m n (p + 1) (q - 1) k.second (by_plan m n p q k.first a) → y ≡ by_plan n n (p + 1) (q - 1) k.second (by_plan n n p q k.first v)
    → b ≡ (is_none k.second && (is_none k.first && k.quiet))
    → passed (svd z y) b ≡ rotate_free m n (p + 1) (q - 1) (rotate_free m n p q (passed (svd a v) k.quiet))
both_spun m n p q a v z y ss k b l h K ez ey eb =
    let u = by_plan m n p q k.first a in
    let w = by_plan n n p q k.first v in
    let one = spun m n p q a v u w k.first (K.ahead h) refl refl k.quiet in
    let P = plan_kept m n p q k.first a u refl (p + 1) (q - 1) k.second (omega arith) (omega arith)
    (λ d. absurd (omega (arith, d))) (λ d. absurd (omega (arith, d))) (λ d. absurd (omega (arith, d))) (λ d. absurd (omega (arith, d))) K.behind in
    let two = spun m n (p + 1) (q - 1) u w z y k.second P ez ey (is_none k.first && k.quiet) in
    rw (eb, ← one) two
