-- Columns of which two were turned: the others stand, stay finite, and keep their sums of squares. Assumes nothing.
use mathlib.Core.Path.{◌≡◌, refl, sym, ap, ◌∙◌}
use Prim.Native.Nat.{ℕ, ◌+◌, ◌-◌, ◌*◌, ◌<◌, ◌≤◌}
use native.Mathlib.Nat.{le_of_eq}
use native.Mathlib.Omega.{arith}
use mathlib.Core.Bool.{Bool, true, false, ◌&&◌}
use mathlib.Core.List.{List}
use lib.Dec.{eqb}
use lib.ListN.{length, get_or, set, take, drop, length-set, length-drop}
use lib.Seq.{get_or-set_same, get_or-set_other, get_or-take, get_or-drop, length-take-le}
use lib.Ieee.{Float, nan, binary64, le}
use lib.Ieee.Fits.{mul-fits}
use Rattle.numbers.specs.Arithmetic.{times, over, zero64, tolerance64}
use Rattle.numbers.specs.Finite.{finite}
use Rattle.numbers.specs.Magnitude.{magnitude_of}
use Rattle.numbers.specs.Root.{root_of}
use Rattle.std.specs.Prelude.{Ok}
use Rattle.answers.specs.Outcome.{stage_of}
use Rattle.lists.specs.Lists.{pick}
use Rattle.lists.specs.Floats.{at, cell, sum_on, sum_to, all_finite, stored}
use Rattle.lists.proofs.Cells.{cell_lt, exact_end}
use Rattle.lists.proofs.Floats.{finite_get_d_lem, stored_yes}
use Rattle.lists.proofs.Sums.{times_finite, sum_finite, sum_same}
use Rattle.lists.proofs.Tables.{length_tab, get_or_tab_lem, length_grid, get_or_grid_lem, grid_is, tab_is}
use Rattle.lists.proofs.Tests.{eqb_is, eqb_not, eqb_no, both}
use Rattle.cutform.specs.Rotation.{turned_at}
use Rattle.rotation.specs.Pairs.{turn_pairs}
use Rattle.rotation.proofs.Turned.{rows_turned}
use Rattle.pairform.specs.Columns.{turn_stored, dot, skipped}
use Rattle.columns.specs.Loops.{squares, FiniteElsewhere}
use Rattle.lists.proofs.Finite.{grid_finite}

-- ---- whether a pair is skipped
module _ (alpha low high sq : Float) (e : sq ≡ root_of (times low high)) where
  pub skipped_small : le sq zero64 ≡ true → true ≡ skipped alpha low high
  unfolding skipped
  skipped_small h = rw (← e, h)

  pub skipped_near : le sq zero64 ≡ false → (x : Float) → x ≡ magnitude_of (over alpha sq) → le x tolerance64 ≡ skipped alpha low high
  unfolding skipped
  skipped_near h x d = rw (← e, h, ← d)

-- ---- sums of squares
module _ (m n : ℕ) (a ss : List Float) where
  pub squares_length : ss ≡ squares m n a → length ss ≡ n
  unfolding squares
  squares_length e = ap length e ∙ length_tab n (λ (col : ℕ). dot m a col col)

  pub squares_at : ss ≡ squares m n a → (k : ℕ) → k < n → at ss k ≡ dot m a k k
  unfolding squares
  squares_at e k l = ap (λ (x : List Float). at x k) e ∙ get_or_tab_lem n (λ (col : ℕ). dot m a col col) k nan l

  -- two of them anew
  pub squared_again : (p q : ℕ) (x y : Float) → length ss ≡ n → p < n → q < n → ((k : ℕ) → k < n → ¬ (k ≡ p) → ¬ (k ≡ q) → at ss k ≡ dot m a k k) → x ≡ dot m a p p → y ≡ dot m a q q → set (set ss p x) q y ≡ squares m n a
  unfolding squares
  squared_again p q x y long hp hq rest ex ey = tab_is n (λ (col : ℕ). dot m a col col) nan (set (set ss p x) q y) (simp length-set long) (λ k l. go k l (eqb k p) (eqb k q) refl refl)
    where
      inner : length (set ss p x) ≡ n
      inner = simp length-set long

      go : (k : ℕ) → k < n → (b d : Bool) → eqb k p ≡ b → eqb k q ≡ d → at (set (set ss p x) q y) k ≡ dot m a k k
      go k l b true eb ed = let z = eqb_is k q ed in rw z (get_or-set_same (set ss p x) q y nan (omega (arith, inner)) ∙ ey)
      go k l true false eb ed = get_or-set_other (set ss p x) q k y nan (eqb_not k q ed) ∙ (let z = eqb_is k p eb in rw z (get_or-set_same ss p x nan (omega arith) ∙ ex))
      go k l false false eb ed = get_or-set_other (set ss p x) q k y nan (eqb_not k q ed) ∙ get_or-set_other ss p k x nan (eqb_not k p eb) ∙ rest k l (eqb_not k p eb) (eqb_not k q ed)

-- ---- two columns turned
module _ (m n p q : ℕ) (c s : Float) (l u : List Float) where
  pub turn_is : length l ≡ n * m → p < q → q < n → u ≡ turn_pairs m 1 (p * m) (q * m) c s l → u ≡ turn_stored m n p q c s l
  unfolding turn_stored
  turn_is long h g e = rows_turned n m p q c s l u long (λ d. omega arith) (omega arith) g e

  module _ (e : u ≡ turn_stored m n p q c s l) where
    pub turned_length : length u ≡ n * m
    unfolding turn_stored
    turned_length = ap length e ∙ length_grid n m _

    turned_other : (col row : ℕ) → col < n → row < m → ¬ (col ≡ p) → ¬ (col ≡ q) → cell m u col row ≡ cell m l col row
    unfolding turn_stored turned_at pick
    turned_other col row h g d f =
        ap (λ (x : List Float). at x (col * m + row)) e
        ∙ get_or_grid_lem n m (λ (i j : ℕ). turned_at p q c s (λ (k : ℕ). cell m l k j) i) col row nan h g
        ∙ rw (eqb_no col p d, eqb_no col q f)

    pub turned_elsewhere : length l ≡ n * m → all_finite l ≡ true → FiniteElsewhere m n p q u
    turned_elsewhere long fine col row h g d f = ap finite (turned_other col row h g d f) ∙ finite_get_d_lem l (col * m + row) nan (cell_lt col n m row (length l) h g (le_of_eq (sym long))) fine

    pub turned_squares : (ss : List Float) → ss ≡ squares m n l → (k : ℕ) → k < n → ¬ (k ≡ p) → ¬ (k ≡ q) → at ss k ≡ dot m u k k
    unfolding dot
    turned_squares ss es k h d f = squares_at m n l ss es k h ∙ sym (sum_same m (λ (row : ℕ). times (cell m u k row) (cell m u k row)) (λ (row : ℕ). times (cell m l k row) (cell m l k row)) (λ row g. rw (turned_other k row h g d f)))

-- ---- where all but two columns are known to be finite, those two decide
module _ (m n p q : ℕ) (a : List Float) (long : length a ≡ n * m) (hp : p < n) (hq : q < n) (rest : FiniteElsewhere m n p q a) where
  abbrev part : ℕ → List Float
  part k = take (k * m + m - k * m) (drop (k * m) a)

  part_cell : (k row : ℕ) → k < n → row < m → all_finite (part k) ≡ true → finite (cell m a k row) ≡ true
  part_cell k row h g f =
      let w : k * m + m - k * m ≡ m = omega arith in
      let z : get_or (part k) row nan ≡ cell m a k row = rw w (get_or-take m (drop (k * m) a) row nan g ∙ get_or-drop (k * m) a row nan) in
      let b = exact_end k n m (length a) long h in
      let r : m ≤ length (drop (k * m) a) = rw length-drop (omega arith) in
      let t : row < length (part k) = rw (w, length-take-le m (drop (k * m) a) r) g in
      ap finite (sym z) ∙ finite_get_d_lem (part k) row nan t f

  module _ (ours : (row : ℕ) → row < m → finite (cell m a p row) ≡ true) (theirs : (row : ℕ) → row < m → finite (cell m a q row) ≡ true) where
    each : (col row : ℕ) → col < n → row < m → finite (cell m a col row) ≡ true
    each col row l r = go (eqb col p) (eqb col q) refl refl
      where
        go : (b d : Bool) → eqb col p ≡ b → eqb col q ≡ d → finite (cell m a col row) ≡ true
        go true d eb ed = let z = eqb_is col p eb in rw z (ours row r)
        go false true eb ed = let z = eqb_is col q ed in rw z (theirs row r)
        go false false eb ed = rest col row l r (eqb_not col p eb) (eqb_not col q ed)

    all_whole : Ok tt ≡ stage_of (stored a)
    all_whole = sym (ap stage_of (stored_yes a (ap all_finite (grid_is n m (λ (col row : ℕ). cell m a col row) nan a long (λ col row l r. refl)) ∙ grid_finite n m (λ (col row : ℕ). cell m a col row) each)))

  -- by a look at both
  pub two_finite : (f g : Bool) → f ≡ all_finite (part p) → g ≡ all_finite (part q) → f && g ≡ true → Ok tt ≡ stage_of (stored a)
  two_finite f g ef eg h = all_whole (λ row r. part_cell p row hp r (sym ef ∙ (both f g h).0)) (λ row r. part_cell q row hq r (sym eg ∙ (both f g h).1))

  -- by their sums of squares: a finite sum has finite terms
  squared_cell : (ss : List Float) → ss ≡ squares m n a → (k row : ℕ) → k < n → row < m → finite (at ss k) ≡ true → finite (cell m a k row) ≡ true
  unfolding dot sum_to
  squared_cell ss es k row h g f =
      let t : ℕ → Float = λ i. times (cell m a k i) (cell m a k i) in
      let d : finite (sum_on zero64 m t) ≡ true = ap finite (sym (squares_at m n a ss es k h)) ∙ f in
      times_finite (cell m a k row) (cell m a k row) ((sum_finite t (λ i. mul-fits binary64 (cell m a k i) (cell m a k i)) zero64 m d).1 row g)

  pub two_squared : (ss : List Float) → ss ≡ squares m n a → (f g : Bool) → f ≡ finite (at ss p) → g ≡ finite (at ss q) → f && g ≡ true → Ok tt ≡ stage_of (stored a)
  two_squared ss es f g ef eg h = all_whole (λ row r. squared_cell ss es p row hp r (sym ef ∙ (both f g h).0)) (λ row r. squared_cell ss es q row hq r (sym eg ∙ (both f g h).1))
