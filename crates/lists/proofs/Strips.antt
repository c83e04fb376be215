-- A strip of sums number by number, and strips stored one after another. Assumes nothing.
use mathlib.Core.Path.{◌≡◌, refl, sym, ap, ◌∙◌}
use mathlib.Core.Logic.{⊎_elim}
use mathlib.Core.List.{List, ◌++◌, append-nil}
use Prim.Native.Nat.{ℕ, zero, suc, ◌+◌, ◌*◌, ◌<◌, ◌≤◌}
use native.Mathlib.Nat.{add_assoc, zero-add, not-suc-le-zero, le_of_suc-le-suc, eq-or-lt_of_le}
use native.Mathlib.Omega.{arith}
use lib.ListN.{length, set, drop, length-set, drop_of_length-le}
use lib.Seq.{get_or-set_same, get_or-set_other}
use lib.Ieee.{Float, nan}
use Rattle.numbers.specs.Arithmetic.{plus}
use Rattle.lists.specs.Lists.{iter, iter_from, tab, grid}
use Rattle.lists.specs.Floats.{at}
use Rattle.lists.specs.Strips.{added_in, stored_from}
use Rattle.lists.proofs.Tables.{iter_keeps, fill_tab, fill_grid}
use Rattle.lists.proofs.Turns.{iter_done, from_done}
use Rattle.lists.proofs.Loops.{iter_same, from_all, from_on, from_add}

-- ---- a strip: the first h each have their own term added, and none is read after it is written
module _ (f : ℕ → Float) (s : List Float) where
  pub added_length : (h : ℕ) → length (added_in h f s) ≡ length s
  unfolding added_in
  added_length h = iter_keeps (λ (l : List Float). length l ≡ length s) (λ (t : ℕ) (l : List Float). set l t (plus (at l t) (f t))) s refl (λ k t e. simp length-set e) h

  added_later : (h t : ℕ) → h ≤ t → at (added_in h f s) t ≡ at s t
  unfolding added_in
  added_later zero t g = refl
  added_later (suc h) t g = get_or-set_other (added_in h f s) h t (plus (at (added_in h f s) h) (f h)) nan (λ e. omega arith) ∙ added_later h t (omega arith)

  pub added_at : (h t : ℕ) → t < h → h ≤ length s → at (added_in h f s) t ≡ plus (at s t) (f t)
  unfolding added_in
  added_at zero t g l = absurd (not-suc-le-zero g)
  added_at (suc h) t g l =
      let z = plus (at (added_in h f s) h) (f h) in
      ⊎_elim
      (λ q. rw q (get_or-set_same (added_in h f s) h z nan (omega (arith, added_length h)) ∙ ap (λ (y : Float). plus y (f h)) (added_later h h (omega arith))))
      (λ q. get_or-set_other (added_in h f s) h t z nan (λ e. omega arith) ∙ added_at h t q (omega arith))
      (eq-or-lt_of_le (le_of_suc-le-suc g))

pub stored_same : (p h : ℕ) (f g : ℕ → Float) (o : List Float) → ((t : ℕ) → t < h → f t ≡ g t) → stored_from p h f o ≡ stored_from p h g o
unfolding stored_from
stored_same p h f g o e = iter_same h (λ (t : ℕ) (l : List Float). set l (p + t) (f t)) (λ (t : ℕ) (l : List Float). set l (p + t) (g t)) o (λ t u l. rw (e t l))

-- ---- a row, strip after strip
-- f i to f (j - 1), stored from e + i on
abbrev pub row_to : ℕ → (ℕ → Float) → ℕ → ℕ → List Float → List Float
row_to e f i j o = iter_from i j (λ (t : ℕ) (l : List Float). set l (e + t) (f t)) o

module _ (e : ℕ) (f : ℕ → Float) (i j : ℕ) (o u v : List Float) where
  pub row_more : (h : ℕ) → u ≡ row_to e f i j o → i ≤ j → v ≡ stored_from (e + j) h (λ (t : ℕ). f (j + t)) u → v ≡ row_to e f i (j + h) o
  unfolding stored_from
  row_more h d g s =
      s ∙ rw (from_on (λ (t : ℕ) (l : List Float). set l (e + t) (f t)) i j h o g, ← d)
      (iter_same h (λ (t : ℕ) (l : List Float). set l (e + j + t) (f (j + t))) (λ (t : ℕ) (l : List Float). set l (e + (j + t)) (f (j + t))) u (λ t l m. rw (add_assoc e j t)))

  pub row_on : (k : ℕ) → u ≡ row_to e f i j o → i ≤ j → v ≡ row_to e f j k u → j ≤ k → v ≡ row_to e f i k o
  row_on k d g s l = s ∙ rw (from_add (λ (t : ℕ) (m : List Float). set m (e + t) (f t)) i j k o g l, ← d)

-- the same at the front
pub front_more : (f : ℕ → Float) (i j h : ℕ) (o u v : List Float) → u ≡ row_to 0 f i j o → i ≤ j → v ≡ stored_from j h (λ (t : ℕ). f (j + t)) u → v ≡ row_to 0 f i (j + h) o
front_more f i j h o u v d g s = row_more 0 f i j o u v h d g (s ∙ ap (λ (p : ℕ). stored_from p h (λ (t : ℕ). f (j + t)) u) (sym (zero-add j)))

pub row_whole : (e : ℕ) (f : ℕ → Float) (j w : ℕ) (o u : List Float) → u ≡ row_to e f 0 j o → j ≤ w → w ≤ j → u ≡ stored_from e w f o
unfolding stored_from
row_whole e f j w o u d g h = from_done (λ (t : ℕ) (l : List Float). set l (e + t) (f t)) o 0 j w u d g h ∙ from_all (λ (t : ℕ) (l : List Float). set l (e + t) (f t)) w o

-- a row stored at the front is a table there
pub stored_tab : (w : ℕ) (f : ℕ → Float) (o : List Float) → w ≤ length o → stored_from 0 w f o ≡ tab w f ++ drop w o
unfolding stored_from
stored_tab w f o l = fill_tab o 0 w f (rw zero-add l) ∙ rw zero-add

-- rows of w stored one after another are a grid: at the front, and over the whole
module _ (m w : ℕ) (f : ℕ → ℕ → Float) (k : ℕ) (o u : List Float) (e : u ≡ iter k (λ (i : ℕ). stored_from (i * w) w (f i)) o) (p : k ≤ m) (q : m ≤ k) where
  pub rows_front : m * w ≤ length o → u ≡ grid m w f ++ drop (m * w) o
  unfolding stored_from
  rows_front l = iter_done (λ (i : ℕ). stored_from (i * w) w (f i)) o k m u e p q ∙ fill_grid o m w f l

  pub rows_whole : length o ≡ m * w → u ≡ grid m w f
  rows_whole l = let b : length o ≤ m * w = omega arith in rows_front (omega arith) ∙ rw (drop_of_length-le o b, append-nil)
