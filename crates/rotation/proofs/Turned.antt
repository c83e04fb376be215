-- Pairs that are turned one after another at places that are all apart: each number by itself, then columns and rows. Assumes nothing.
use mathlib.Core.Path.{◌≡◌, refl, sym, ◌∙◌}
use mathlib.Core.Logic.{⊎_elim}
use Prim.Native.Nat.{ℕ, zero, suc, ◌+◌, ◌*◌, ◌<◌, ◌≤◌}
use native.Mathlib.Nat.{not-suc-le-zero, le_of_suc-le-suc, le_of_eq, le_refl, eq-or-lt_of_le}
use native.Mathlib.Omega.{arith}
use mathlib.Core.Bool.{Bool, true, false}
use mathlib.Core.List.{List}
use lib.Dec.{eqb}
use lib.ListN.{length, set, length-set}
use lib.Seq.{get_or-set_same, get_or-set_other}
use lib.Ieee.{Float, nan}
use Rattle.numbers.specs.Arithmetic.{plus, minus, times}
use Rattle.lists.specs.Lists.{iter, grid, pick}
use Rattle.lists.specs.Floats.{at, cell}
use Rattle.lists.proofs.Cells.{cell_lt, cell_row, cell_column}
use Rattle.lists.proofs.Tables.{iter_keeps, grid_is}
use Rattle.lists.proofs.Tests.{eqb_is, eqb_not}
use Rattle.cutform.specs.Rotation.{turned_at}
use Rattle.rotation.specs.Pairs.{turn_pair, turn_pairs}

-- the places x 0, x 1, .. and y 0, y 1, .. below m are all apart, and below n
pub record Apart (m n : ℕ) (x y : ℕ → ℕ) : Type 0 where
  pub first : (i j : ℕ) → i < m → j < m → x i ≡ x j → i ≡ j
  pub second : (i j : ℕ) → i < m → j < m → y i ≡ y j → i ≡ j
  pub across : (i j : ℕ) → i < m → j < m → x i ≡ y j → ⊥
  pub first_in : (i : ℕ) → i < m → x i < n
  pub second_in : (i : ℕ) → i < m → y i < n

module _ (c s : Float) (l : List Float) where
  pub pair_length : (a b : ℕ) → length (turn_pair a b c s l) ≡ length l
  unfolding turn_pair
  pair_length a b = simp length-set

  pair_first : (a b : ℕ) → a < length l → ¬ (a ≡ b) → at (turn_pair a b c s l) a ≡ minus (times c (at l a)) (times s (at l b))
  unfolding turn_pair
  pair_first a b h d = let u = minus (times c (at l a)) (times s (at l b)) in get_or-set_other (set l a u) b a (plus (times s (at l a)) (times c (at l b))) nan d ∙ get_or-set_same l a u nan h

  pair_second : (a b : ℕ) → b < length l → at (turn_pair a b c s l) b ≡ plus (times s (at l a)) (times c (at l b))
  unfolding turn_pair
  pair_second a b h = let w = set l a (minus (times c (at l a)) (times s (at l b))) in let n : b < length w = rw length-set h in get_or-set_same w b (plus (times s (at l a)) (times c (at l b))) nan n

  pair_other : (a b z : ℕ) → ¬ (z ≡ a) → ¬ (z ≡ b) → at (turn_pair a b c s l) z ≡ at l z
  unfolding turn_pair
  pair_other a b z d e = let u = minus (times c (at l a)) (times s (at l b)) in get_or-set_other (set l a u) b z (plus (times s (at l a)) (times c (at l b))) nan e ∙ get_or-set_other l a z u nan d

module _ (x y : ℕ → ℕ) (c s : Float) (l : List Float) where
  -- after k pairs
  abbrev to : ℕ → List Float
  to k = iter k (λ (r : ℕ). turn_pair (x r) (y r) c s) l

  pub to_length : (k : ℕ) → length (to k) ≡ length l
  to_length k = iter_keeps (λ (t : List Float). length t ≡ length l) (λ (r : ℕ). turn_pair (x r) (y r) c s) l refl (λ r t e. pair_length c s t (x r) (y r) ∙ e) k

  pub to_other : (k z : ℕ) → ((r : ℕ) → r < k → ¬ (z ≡ x r)) → ((r : ℕ) → r < k → ¬ (z ≡ y r)) → at (to k) z ≡ at l z
  to_other zero z d e = refl
  to_other (suc k) z d e = pair_other c s (to k) (x k) (y k) z (d k (le_refl (suc k))) (e k (le_refl (suc k))) ∙ to_other k z (λ r h. d r (omega arith)) (λ r h. e r (omega arith))

  module _ (m : ℕ) (A : Apart m (length l) x y) where
    -- what stands at places k has not been touched by the pairs before
    first_still : (k : ℕ) → k < m → at (to k) (x k) ≡ at l (x k)
    first_still k h = to_other k (x k) (λ r g e. let z = A.first k r h (omega arith) e in omega arith) (λ r g e. A.across k r h (omega arith) e)

    second_still : (k : ℕ) → k < m → at (to k) (y k) ≡ at l (y k)
    second_still k h = to_other k (y k) (λ r g e. A.across r k (omega arith) h (sym e)) (λ r g e. let z = A.second k r h (omega arith) e in omega arith)

    pub to_first : (k r : ℕ) → k ≤ m → r < k → at (to k) (x r) ≡ minus (times c (at l (x r))) (times s (at l (y r)))
    to_first zero r h g = absurd (not-suc-le-zero g)
    to_first (suc k) r h g =
        ⊎_elim
        (λ q. rw q (pair_first c s (to k) (x k) (y k) (rw (to_length k) (A.first_in k h)) (A.across k k h h) ∙ rw (first_still k h, second_still k h)))
        (λ q. pair_other c s (to k) (x k) (y k) (x r) (λ e. let z = A.first r k (omega arith) h e in omega arith) (A.across r k (omega arith) h) ∙ to_first k r (omega arith) q)
        (eq-or-lt_of_le (le_of_suc-le-suc g))

    pub to_second : (k r : ℕ) → k ≤ m → r < k → at (to k) (y r) ≡ plus (times s (at l (x r))) (times c (at l (y r)))
    to_second zero r h g = absurd (not-suc-le-zero g)
    to_second (suc k) r h g =
        ⊎_elim
        (λ q. rw q (pair_second c s (to k) (x k) (y k) (rw (to_length k) (A.second_in k h)) ∙ rw (first_still k h, second_still k h)))
        (λ q. pair_other c s (to k) (x k) (y k) (y r) (λ e. A.across k r h (omega arith) (sym e)) (λ e. let z = A.second r k (omega arith) h e in omega arith) ∙ to_second k r (omega arith) q)
        (eq-or-lt_of_le (le_of_suc-le-suc g))

-- ---- number j of a line, by where it stands
module _ (p q : ℕ) (c s : Float) (f : ℕ → Float) (v : Float) (d : ¬ (p ≡ q)) where
  pub turned_line : (j : ℕ) → (j ≡ p → v ≡ minus (times c (f p)) (times s (f q))) → (j ≡ q → v ≡ plus (times s (f p)) (times c (f q))) → (¬ (j ≡ p) → ¬ (j ≡ q) → v ≡ f j) → v ≡ turned_at p q c s f j
  unfolding turned_at pick
  turned_line j a b o = go (eqb j p) (eqb j q) refl refl
    where
      go : (e g : Bool) → eqb j p ≡ e → eqb j q ≡ g → v ≡ pick e (minus (times c (f p)) (times s (f q))) (pick g (plus (times s (f p)) (times c (f q))) (f j))
      go true g h k = a (eqb_is j p h)
      go false true h k = b (eqb_is j q k)
      go false false h k = o (eqb_not j p h) (eqb_not j q k)

-- ---- k rows of w numbers
module _ (k w p q : ℕ) (c s : Float) (l u : List Float) (n : length l ≡ k * w) (d : ¬ (p ≡ q)) where
  -- columns p and q
  module _ (hp : p < w) (hq : q < w) where
    columns_apart : Apart k (length l) (λ (r : ℕ). r * w + p) (λ (r : ℕ). r * w + q)
    columns_apart = record {
      first = λ i j a b e. cell_row i j w p p hp hp e;
      second = λ i j a b e. cell_row i j w q q hq hq e;
      across = λ i j a b e. d (cell_column i j w p q hp hq e);
      first_in = λ i a. cell_lt i k w p (length l) a hp (le_of_eq (sym n));
      second_in = λ i a. cell_lt i k w q (length l) a hq (le_of_eq (sym n));
    }

    pub columns_turned : u ≡ turn_pairs k w p q c s l → u ≡ grid k w (λ (i j : ℕ). turned_at p q c s (λ (t : ℕ). cell w l i t) j)
    unfolding turn_pairs
    columns_turned e =
        let x : ℕ → ℕ = λ r. r * w + p in
        let y : ℕ → ℕ = λ r. r * w + q in
        e ∙ grid_is k w (λ (i j : ℕ). turned_at p q c s (λ (t : ℕ). cell w l i t) j) nan (to x y c s l k) (to_length x y c s l k ∙ n)
        (λ i j a b. turned_line p q c s (λ (t : ℕ). cell w l i t) (at (to x y c s l k) (i * w + j)) d j
        (λ z. rw z (to_first x y c s l k columns_apart k i (le_refl k) a))
        (λ z. rw z (to_second x y c s l k columns_apart k i (le_refl k) a))
        (λ f g. to_other x y c s l k (i * w + j) (λ r h z. f (cell_column i r w j p b hp z)) (λ r h z. g (cell_column i r w j q b hq z))))

  -- rows p and q
  module _ (hp : p < k) (hq : q < k) where
    rows_apart : Apart w (length l) (λ (r : ℕ). r * 1 + p * w) (λ (r : ℕ). r * 1 + q * w)
    rows_apart = record {
      first = λ i j a b e. omega arith;
      second = λ i j a b e. omega arith;
      across = λ i j a b e. d (cell_row p q w i j a b (omega arith));
      first_in = λ i a. let z = cell_lt p k w i (length l) hp a (le_of_eq (sym n)) in omega arith;
      second_in = λ i a. let z = cell_lt q k w i (length l) hq a (le_of_eq (sym n)) in omega arith;
    }

    pub rows_turned : u ≡ turn_pairs w 1 (p * w) (q * w) c s l → u ≡ grid k w (λ (i j : ℕ). turned_at p q c s (λ (t : ℕ). cell w l t j) i)
    unfolding turn_pairs
    rows_turned e =
        let x : ℕ → ℕ = λ r. r * 1 + p * w in
        let y : ℕ → ℕ = λ r. r * 1 + q * w in
        let place : (r i : ℕ) → i * w + r ≡ r * 1 + i * w = λ r i. omega arith in
        e ∙ grid_is k w (λ (i j : ℕ). turned_at p q c s (λ (t : ℕ). cell w l t j) i) nan (to x y c s l w) (to_length x y c s l w ∙ n)
        (λ i j a b. turned_line p q c s (λ (t : ℕ). cell w l t j) (at (to x y c s l w) (i * w + j)) d i
        (λ z. rw (z, place j p, place j q) (to_first x y c s l w rows_apart w j (le_refl w) b))
        (λ z. rw (z, place j p, place j q) (to_second x y c s l w rows_apart w j (le_refl w) b))
        (λ f g. to_other x y c s l w (i * w + j) (λ r h z. f (cell_row i p w j r b h (omega arith))) (λ r h z. g (cell_row i q w j r b h (omega arith)))))
