-- Passes of which no number is looked at: where all is finite at the end, they are the passes. Assumes nothing.
use Rattle.std.specs.Prelude.{Ok, Err}
use mathlib.Core.Path.{◌≡◌, refl, sym, ap, ◌∙◌, subst}
use Prim.Native.Nat.{ℕ, zero, suc, ◌+◌, ◌-◌, ◌*◌, ◌<◌, ◌≤◌}
use native.Mathlib.Nat.{le_of_eq, zero-add}
use native.Mathlib.Omega.{arith}
use mathlib.Core.Bool.{Bool, true, false}
use mathlib.Core.List.{List}
use lib.Dec.{eqb}
use lib.ListN.{length}
use lib.Ieee.{Float, nan, inf, fin, binary64, neg, sub}
use lib.Ieee.Fits.{mul-fits}
use Rattle.numbers.specs.Arithmetic.{minus, times, zero64}
use Rattle.numbers.specs.Finite.{finite}
use Rattle.numbers.proofs.Swaps.{times_swap}
use Rattle.answers.specs.Outcome.{Made, bind}
use Rattle.lists.specs.Lists.{pick, iter, iter_from}
use Rattle.lists.specs.Floats.{cell, sum_on, sum_to, all_finite}
use Rattle.lists.specs.Walks.{turning}
use Rattle.lists.proofs.Cells.{cell_lt}
use Rattle.lists.proofs.Floats.{finite_get_d_lem, stored_yes}
use Rattle.lists.proofs.Sums.{plus_finite, times_finite, sum_finite}
use Rattle.lists.proofs.Tables.{length_grid, get_or_grid_lem, grid_is}
use Rattle.lists.proofs.Tests.{eqb_is, eqb_yes}
use Rattle.lists.proofs.Pairs.{along_pairs}
use Rattle.lists.proofs.Loops.{iter_same}
use Rattle.cutform.specs.Rotation.{tangent_of, slope_of, cosine_of, turned_at}
use Rattle.pairform.specs.Columns.{turn_stored, dot, skipped}
use Rattle.columns.specs.Loops.{squares}
use Rattle.lists.proofs.Finite.{grid_finite}
use Rattle.columns.proofs.TwoColumns.{squares_at}
use Rattle.pairform.specs.Passes.{svd, Svd, Pass, passed, turned_svd, rotate, pass}
use Rattle.passes.specs.Loops.{pass_row}
use Rattle.passes.specs.Free.{rotate_free, row_free, pass_free}

-- ---- a finite difference has finite parts
neg_finite : (y : Float) → finite (neg y) ≡ true → finite y ≡ true
unfolding neg
neg_finite nan h = h
neg_finite (inf s) h = h
neg_finite (fin s m e) h = refl

minus_lasts : (x y : Float) → finite (minus x y) ≡ true → (finite x ≡ true) × (finite y ≡ true)
unfolding sub
minus_lasts x y h = let r = plus_finite x (neg y) h in (r.0, neg_finite y r.1)

second_finite : (x y : Float) → finite (times x y) ≡ true → finite y ≡ true
second_finite x y h = times_finite y x (ap finite (sym (times_swap x y)) ∙ h)

-- ---- two columns turned
module _ (m n p q : ℕ) (c s : Float) (l : List Float) (long : length l ≡ n * m) (g : p < q) (h : q < n) (fine : all_finite (turn_stored m n p q c s l) ≡ true) where
  abbrev u : List Float
  u = turn_stored m n p q c s l

  u_long : length u ≡ n * m
  unfolding turn_stored
  u_long = length_grid n m _

  u_cell : (col row : ℕ) → col < n → row < m → cell m u col row ≡ turned_at p q c s (λ (k : ℕ). cell m l k row) col
  unfolding turn_stored
  u_cell col row a b = get_or_grid_lem n m (λ (i j : ℕ). turned_at p q c s (λ (k : ℕ). cell m l k j) i) col row nan a b

  u_fine : (col row : ℕ) → col < n → row < m → finite (turned_at p q c s (λ (k : ℕ). cell m l k row) col) ≡ true
  u_fine col row a b = ap finite (sym (u_cell col row a b)) ∙ finite_get_d_lem u (col * m + row) nan (cell_lt col n m row (length u) a b (le_of_eq (sym u_long))) fine

  l_fine : (col row : ℕ) → col < n → row < m → finite (cell m l col row) ≡ true
  unfolding turned_at pick
  l_fine col row a b = go (eqb col p) (eqb col q) refl refl
    where
      f : ℕ → Float
      f k = cell m l k row

      first : finite (minus (times c (f p)) (times s (f q))) ≡ true
      first = let z : eqb p p ≡ true = eqb_yes p p refl in rw z at (u_fine p row (omega arith) b)

      go : (x y : Bool) → eqb col p ≡ x → eqb col q ≡ y → finite (f col) ≡ true
      go true y ex ey = let z = eqb_is col p ex in rw z (second_finite c (f p) (minus_lasts (times c (f p)) (times s (f q)) first).0)
      go false true ex ey = let z = eqb_is col q ey in rw z (second_finite s (f q) (minus_lasts (times c (f p)) (times s (f q)) first).1)
      go false false ex ey = rw (ex, ey) at (u_fine col row a b)

  pub turn_back : all_finite l ≡ true
  turn_back = ap all_finite (grid_is n m (λ (col row : ℕ). cell m l col row) nan l long (λ col row a b. refl)) ∙ grid_finite n m (λ (col row : ℕ). cell m l col row) l_fine

-- ---- where the sums of squares are finite, so are the columns
pub squares_fine : (m n : ℕ) (a ss : List Float) → length a ≡ n * m → length ss ≡ n → ss ≡ squares m n a → all_finite ss ≡ true → all_finite a ≡ true
unfolding dot sum_to
squares_fine m n a ss long count es fine =
    ap all_finite (grid_is n m (λ (col row : ℕ). cell m a col row) nan a long (λ col row x y. refl)) ∙ grid_finite n m (λ (col row : ℕ). cell m a col row) each
  where
    each : (k row : ℕ) → k < n → row < m → finite (cell m a k row) ≡ true
    each k row h g =
        let t : ℕ → Float = λ i. times (cell m a k i) (cell m a k i) in
        let d : finite (sum_on zero64 m t) ≡ true = ap finite (sym (squares_at m n a ss es k h)) ∙ finite_get_d_lem ss k nan (omega (arith, count)) fine in
        times_finite (cell m a k row) (cell m a k row) ((sum_finite t (λ i. mul-fits binary64 (cell m a k i) (cell m a k i)) zero64 m d).1 row g)

-- ---- walks that refuse nothing
module _ {A : Type 0} (f : ℕ → A → Made A) where
  turning_last : (k i : ℕ) (x : A) → turning (suc k) i f x ≡ bind (turning k i f x) (λ y. f (i + k) y)
  unfolding turning
  turning_last zero i x = let z : i + 0 ≡ i = omega arith in rw z (go (f i x))
    where
      go : (o : Made A) → bind o (λ b. Ok b) ≡ o
      go (Ok b) = refl
      go (Err r) = refl
  turning_last (suc k) i x = go (λ b. turning_last k (suc i) b) (f i x)
    where
      go : ((b : A) → turning (suc k) (suc i) f b ≡ bind (turning k (suc i) f b) (λ y. f (suc i + k) y)) → (o : Made A) → bind o (λ b. turning (suc k) (suc i) f b) ≡ bind (bind o (λ b. turning k (suc i) f b)) (λ y. f (i + suc k) y)
      go h (Ok b) = let z : suc i + k ≡ i + suc k = omega arith in h b ∙ ap (λ (j : ℕ). bind (turning k (suc i) f b) (λ y. f j y)) z
      go h (Err r) = refl

-- L holds from the start on, and F from the end back
module _ {A : Type 0} (f : ℕ → A → Made A) (g : ℕ → A → A) (L F : A → Type 0) (lo hi : ℕ)
    (on : (i : ℕ) (x : A) → lo ≤ i → i < hi → L x → L (g i x))
    (back : (i : ℕ) (x : A) → lo ≤ i → i < hi → L x → F (g i x) → F x)
    (same : (i : ℕ) (x : A) → lo ≤ i → i < hi → L x → F (g i x) → f i x ≡ Ok (g i x)) where
  walk_long : (k : ℕ) (x : A) → lo + k ≤ hi → L x → L (iter k (λ (t : ℕ). g (lo + t)) x)
  walk_long zero x h l = l
  walk_long (suc k) x h l = on (lo + k) _ (omega arith) (omega arith) (walk_long k x (omega arith) l)

  walk_back : (k : ℕ) (x : A) → lo + k ≤ hi → L x → F (iter k (λ (t : ℕ). g (lo + t)) x) → F x
  walk_back zero x h l e = e
  walk_back (suc k) x h l e = walk_back k x (omega arith) l (back (lo + k) _ (omega arith) (omega arith) (walk_long k x (omega arith) l) e)

  walk_same : (k : ℕ) (x : A) → lo + k ≤ hi → L x → F (iter k (λ (t : ℕ). g (lo + t)) x) → turning k lo f x ≡ Ok (iter k (λ (t : ℕ). g (lo + t)) x)
  unfolding turning
  walk_same zero x h l e = refl
  walk_same (suc k) x h l e =
      let y = iter k (λ (t : ℕ). g (lo + t)) x in
      let ly = walk_long k x (omega arith) l in
      turning_last f k lo x
      ∙ ap (λ (o : Made A). bind o (λ z. f (lo + k) z)) (walk_same k x (omega arith) l (back (lo + k) y (omega arith) (omega arith) ly e))
      ∙ same (lo + k) y (omega arith) (omega arith) ly e

-- ---- rotations
module _ (m n : ℕ) where
  abbrev pub Long : Pass → Type 0
  Long x = (length x.svd.columns ≡ n * m) × (length x.svd.basis ≡ n * n)

  abbrev pub Fine : Pass → Type 0
  Fine x = (all_finite x.svd.columns ≡ true) × (all_finite x.svd.basis ≡ true)

  module _ (p q : ℕ) (h : p < q) (g : q < n) (x : Pass) where
    abbrev a : List Float
    a = x.svd.columns

    abbrev v : List Float
    v = x.svd.basis

    abbrev t : Float
    t = tangent_of (slope_of (dot m a p p) (dot m a q q) (dot m a p q))

    abbrev after : Pass
    after = passed (svd (turn_stored m n p q (cosine_of t) (times (cosine_of t) t) a) (turn_stored n n p q (cosine_of t) (times (cosine_of t) t) v)) false

    rotate_long : Long x → Long (rotate_free m n p q x)
    unfolding rotate_free turn_stored pick
    rotate_long l = go (skipped (dot m a p q) (dot m a p p) (dot m a q q))
      where
        go : (b : Bool) → Long (pick b x after)
        go true = l
        go false = (length_grid n m _, length_grid n n _)

    rotate_back : Long x → Fine (rotate_free m n p q x) → Fine x
    unfolding rotate_free pick
    rotate_back l = go (skipped (dot m a p q) (dot m a p p) (dot m a q q))
      where
        go : (b : Bool) → Fine (pick b x after) → Fine x
        go true f = f
        go false f = (turn_back m n p q _ _ a l.0 h g f.0, turn_back n n p q _ _ v l.1 h g f.1)

    rotate_same : Long x → Fine (rotate_free m n p q x) → rotate m n p q x ≡ Ok (rotate_free m n p q x)
    unfolding rotate_free rotate turned_svd pick
    rotate_same l = go (skipped (dot m a p q) (dot m a p p) (dot m a q q))
      where
        go : (b : Bool) → Fine (pick b x after) → pick b (Ok x) (bind (turned_svd m n p q (cosine_of t) (times (cosine_of t) t) x.svd) (λ e. Ok (passed e false))) ≡ Ok (pick b x after)
        go true f = refl
        go false f = rw (stored_yes (turn_stored m n p q (cosine_of t) (times (cosine_of t) t) a) f.0, stored_yes (turn_stored n n p q (cosine_of t) (times (cosine_of t) t) v) f.1)

  -- one p
  module _ (p : ℕ) (h : p < n) (x : Pass) where
    ends : p + 1 + (n - (p + 1)) ≤ n
    ends = omega arith

    row_long : Long x → Long (row_free m n p x)
    unfolding row_free iter_from
    row_long l = walk_long (rotate m n p) (rotate_free m n p) Long Fine (p + 1) n (λ q y a b. rotate_long p q (omega arith) b y) (λ q y a b. rotate_back p q (omega arith) b y) (λ q y a b. rotate_same p q (omega arith) b y) (n - (p + 1)) x ends l

    row_back : Long x → Fine (row_free m n p x) → Fine x
    unfolding row_free iter_from
    row_back l = walk_back (rotate m n p) (rotate_free m n p) Long Fine (p + 1) n (λ q y a b. rotate_long p q (omega arith) b y) (λ q y a b. rotate_back p q (omega arith) b y) (λ q y a b. rotate_same p q (omega arith) b y) (n - (p + 1)) x ends l

    row_same : Long x → Fine (row_free m n p x) → pass_row m n p x ≡ Ok (row_free m n p x)
    unfolding row_free iter_from pass_row
    row_same l = walk_same (rotate m n p) (rotate_free m n p) Long Fine (p + 1) n (λ q y a b. rotate_long p q (omega arith) b y) (λ q y a b. rotate_back p q (omega arith) b y) (λ q y a b. rotate_same p q (omega arith) b y) (n - (p + 1)) x ends l

  -- a whole pass
  pub pass_same : (e : Svd) (x : Pass) → Long (passed e true) → x ≡ pass_free m n (passed e true) → Fine x → pass m n e ≡ Ok x
  unfolding pass_free pass pass_row
  pass_same e x l d f =
      let z : iter n (λ (t : ℕ). row_free m n (0 + t)) (passed e true) ≡ iter n (row_free m n) (passed e true) = iter_same n (λ (t : ℕ). row_free m n (0 + t)) (row_free m n) (passed e true) (λ t u h. rw zero-add) in
      along_pairs n (λ (y : ℕ × ℕ). rotate m n y.0 y.1) (passed e true)
      ∙ walk_same (pass_row m n) (row_free m n) Long Fine 0 n (λ p y a b. row_long p b y) (λ p y a b. row_back p b y) (λ p y a b. row_same p b y) n (passed e true) (omega arith) l (subst Fine (d ∙ sym z) f)
      ∙ ap Ok (z ∙ sym d)
