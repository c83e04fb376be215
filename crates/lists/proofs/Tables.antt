-- Tables: their lengths and entries, and that a loop of stores is a table in place. Assumes nothing.
use Prim.Native.Nat.{ℕ, zero, suc, ◌+◌, ◌-◌, ◌*◌, ◌<◌, ◌≤◌}
use native.Mathlib.Nat.{zero-add, add-zero, add-suc, suc-add, suc-mul, zero-mul, le_refl, le_of_lt, not-suc-le-zero, le_of_suc-le-suc, eq-or-lt_of_le}
use native.Mathlib.Numerals.{add-one}
use mathlib.Core.Logic.{⊎_elim}
use native.Mathlib.Omega.{arith}
use mathlib.Core.Path.{◌≡◌, refl, sym, ap, ◌∙◌}
use mathlib.Core.List.{List, [], ◌∷◌, ◌++◌, map, append_assoc, append-nil}
use lib.ListN.{length, get_or, set, take, drop, length-append, take-append-drop, get_or-append, length-drop, drop_of_length-le}
use lib.Seq.{set_at, drop-cons, length-take-le, get_or_at, get_or-append-add, take_at, drop-append-add, drop-drop}
use Rattle.lists.proofs.Cells.{cell_lt}
use Rattle.lists.specs.Lists.{iter, listed, tab, flat, joined, grid}
use Rattle.lists.proofs.Loops.{iter_same}

-- what each turn keeps, the loop keeps
pub iter_keeps : {S : Type 0} (P : S → Type 0) (f : ℕ → S → S) (s : S) → P s → ((k : ℕ) (t : S) → P t → P (f k t)) → (k : ℕ) → P (iter k f s)
iter_keeps P f s p q zero = p
iter_keeps P f s p q (suc k) = q k (iter k f s) (iter_keeps P f s p q k)

-- ---- lists by number
module _ {A : Type 0} where
  -- within the list it doesn't matter what stands beyond it
  pub get_d_any : (l : List A) (i : ℕ) (d e : A) → i < length l → get_or l i d ≡ get_or l i e
  get_d_any [] i d e h = absurd (not-suc-le-zero h)
  get_d_any (x ∷ l) zero d e h = refl
  get_d_any (x ∷ l) (suc i) d e h = get_d_any l i d e (le_of_suc-le-suc h)

  pub listed_length : (m k : ℕ) (f : ℕ → A) → length (listed m k f) ≡ m
  unfolding listed
  listed_length zero k f = refl
  listed_length (suc m) k f = ap suc (listed_length m (suc k) f)

  pub listed_same : (m k : ℕ) (f g : ℕ → A) → ((j : ℕ) → k ≤ j → j < k + m → f j ≡ g j) → listed m k f ≡ listed m k g
  unfolding listed
  listed_same zero k f g h = refl
  listed_same (suc m) k f g h =
      ap (λ (x : A). x ∷ listed m (suc k) f) (h k (le_refl k) (omega arith))
      ∙ ap (λ (l : List A). g k ∷ l) (listed_same m (suc k) f g (λ j a b. h j (omega arith) (omega arith)))

  pub listed_add : (m n k : ℕ) (f : ℕ → A) → listed (m + n) k f ≡ listed m k f ++ listed n (k + m) f
  unfolding listed
  listed_add zero n k f = ap (λ (j : ℕ). listed j k f) (zero-add n) ∙ ap (λ (j : ℕ). listed n j f) (sym (add-zero k))
  listed_add (suc m) n k f =
      ap (λ (j : ℕ). listed j k f) (suc-add m n)
      ∙ ap (λ (l : List A). f k ∷ l) (listed_add m n (suc k) f ∙ ap (λ (j : ℕ). listed m (suc k) f ++ listed n j f) (suc-add k m ∙ sym (add-suc k m)))

  -- the first z are g's, the rest f's, where f and g agree before z
  pub listed_split : (d z : ℕ) (f g : ℕ → A) → z ≤ d → ((j : ℕ) → j < z → f j ≡ g j) → tab d f ≡ take z (tab d g) ++ listed (d - z) z f
  listed_split d z f g le h =
      let e : d ≡ z + (d - z) = omega arith in
      let a : (p : ℕ → A) → tab d p ≡ tab z p ++ listed (d - z) z p = λ p. ap (λ (j : ℕ). listed j 0 p) e ∙ listed_add z (d - z) 0 p ∙ ap (λ (j : ℕ). tab z p ++ listed (d - z) j p) (zero-add z) in
      let b : take z (tab d g) ≡ tab z g = ap (take z) (a g) ∙ take_at (tab z g) (listed (d - z) z g) z (listed_length z 0 g) in
      a f ∙ ap (λ (l : List A). l ++ listed (d - z) z f) (listed_same z 0 f g (λ j p q. h j (omega arith)) ∙ sym b)

  pub tab_none : (f : ℕ → A) → tab 0 f ≡ []
  unfolding listed
  tab_none f = refl

  -- one more at the end
  pub tab_more : (k : ℕ) (f : ℕ → A) → tab (suc k) f ≡ tab k f ++ (f k ∷ [])
  unfolding listed
  tab_more k f = ap (λ (j : ℕ). listed j 0 f) (sym (add-one k)) ∙ listed_add k 1 0 f ∙ ap (λ (j : ℕ). tab k f ++ (f j ∷ [])) (zero-add k)

  pub flat_append : (xs ys : List (List A)) → flat (xs ++ ys) ≡ flat xs ++ flat ys
  unfolding flat
  flat_append [] ys = refl
  flat_append (x ∷ xs) ys = ap (λ (l : List A). x ++ l) (flat_append xs ys) ∙ sym (append_assoc x (flat xs) (flat ys))

module _ {A B : Type 0} (g : A → B) where
  listed_map : (m k : ℕ) (f : ℕ → A) → map g (listed m k f) ≡ listed m k (λ (j : ℕ). g (f j))
  unfolding listed
  listed_map zero k f = refl
  listed_map (suc m) k f = ap (λ (l : List B). g (f k) ∷ l) (listed_map m (suc k) f)

  pub tab_map : (n : ℕ) (f : ℕ → A) → map g (tab n f) ≡ tab n (λ (j : ℕ). g (f j))
  tab_map n f = listed_map n 0 f

-- a list is the table of its elements
module _ {A : Type 0} (o : A) where
  listed_shift : (m k : ℕ) (f : ℕ → A) → listed m (suc k) f ≡ listed m k (λ (j : ℕ). f (suc j))
  unfolding listed
  listed_shift zero k f = refl
  listed_shift (suc m) k f = ap (λ (l : List A). f (suc k) ∷ l) (listed_shift m (suc k) f)

  pub tab_get_d_lem : (l : List A) → tab (length l) (λ (k : ℕ). get_or l k o) ≡ l
  unfolding listed
  tab_get_d_lem [] = refl
  tab_get_d_lem (x ∷ l) = ap (λ (y : List A). x ∷ y) (listed_shift (length l) 0 (λ (k : ℕ). get_or (x ∷ l) k o) ∙ tab_get_d_lem l)

pub joined_none : {A : Type 0} (f : ℕ → List A) → joined 0 f ≡ []
unfolding listed flat
joined_none f = refl

pub joined_more : {A : Type 0} (k : ℕ) (f : ℕ → List A) → joined (suc k) f ≡ joined k f ++ f k
unfolding flat
joined_more k f = ap flat (tab_more k f) ∙ flat_append (tab k f) (f k ∷ []) ∙ ap (λ l. joined k f ++ l) (append-nil (f k))

module _ {A : Type 0} where
  pub length_tab : (n : ℕ) (f : ℕ → A) → length (tab n f) ≡ n
  length_tab n f = listed_length n 0 f

  pub get_or_tab_lem : (n : ℕ) (f : ℕ → A) (i : ℕ) (d : A) → i < n → get_or (tab n f) i d ≡ f i
  get_or_tab_lem zero f i d h = absurd (not-suc-le-zero h)
  get_or_tab_lem (suc k) f i d h =
      let e = length_tab k f in
      ap (λ (l : List A). get_or l i d) (tab_more k f)
      ∙ ⊎_elim
      (λ q. rw q (get_or_at (tab k f) (f k) [] d k e))
      (λ q. let b : i < length (tab k f) = omega arith in get_or-append (tab k f) (f k ∷ []) d i b ∙ get_or_tab_lem k f i d q)
      (eq-or-lt_of_le (le_of_suc-le-suc h))

  -- n stores from `at` on are the table in place
  pub fill_tab : (l : List A) (at n : ℕ) (f : ℕ → A) → at + n ≤ length l
      → iter n (λ (j : ℕ) (t : List A). set t (at + j) (f j)) l ≡ take at l ++ (tab n f ++ drop (at + n) l)
  fill_tab l at zero f h = rw (tab_none f, add-zero) (sym (take-append-drop at l))
  fill_tab l at (suc k) f h =
      let p = take at l ++ tab k f in
      let b : at + k < length l = omega arith in
      let a : at ≤ length l = omega arith in
      let y = get_or l (at + k) (f k) in
      let ys = drop (suc (at + k)) l in
      let lp : length p ≡ at + k = length-append (take at l) (tab k f) ∙ rw (length-take-le at l a, length_tab k f) in
      let e : iter k (λ (j : ℕ) (t : List A). set t (at + j) (f j)) l ≡ p ++ (y ∷ ys)
      = fill_tab l at k f (le_of_lt b) ∙ rw (drop-cons l (at + k) (f k) b, append_assoc) in
      ap (λ (t : List A). set t (at + k) (f k)) e ∙ set_at p y ys (f k) (at + k) lp ∙ rw (tab_more k f) (simp (append_assoc, add-suc))

  -- lists of one length m, one after another
  module _ (m : ℕ) (f : ℕ → List A) (even : (i : ℕ) → length (f i) ≡ m) where
    pub length_joined : (k : ℕ) → length (joined k f) ≡ k * m
    length_joined zero = rw (joined_none f, zero-mul)
    length_joined (suc k) = ap length (joined_more k f) ∙ length-append (joined k f) (f k) ∙ rw (length_joined k, even k) (sym (suc-mul k m))

    pub get_or_joined_lem : (k i x : ℕ) (d : A) → i < k → x < m → get_or (joined k f) (i * m + x) d ≡ get_or (f i) x d
    get_or_joined_lem zero i x d h g = absurd (not-suc-le-zero h)
    get_or_joined_lem (suc k) i x d h g =
        ap (λ (l : List A). get_or l (i * m + x) d) (joined_more k f)
        ∙ ⊎_elim
        (λ q. rw q (ap (λ (y : ℕ). get_or (joined k f ++ f k) (y + x) d) (sym (length_joined k)) ∙ get_or-append-add (joined k f) (f k) x d))
        (λ q. let b : i * m + x < length (joined k f) = rw (length_joined k) (cell_lt i k m x (k * m) q g (le_refl (k * m))) in
        get_or-append (joined k f) (f k) d (i * m + x) b ∙ get_or_joined_lem k i x d q g)
        (eq-or-lt_of_le (le_of_suc-le-suc h))

  pub length_grid : (m n : ℕ) (f : ℕ → ℕ → A) → length (grid m n f) ≡ m * n
  length_grid m n f = length_joined n (λ (i : ℕ). tab n (f i)) (λ i. length_tab n (f i)) m

  pub get_or_grid_lem : (m n : ℕ) (f : ℕ → ℕ → A) (i j : ℕ) (d : A) → i < m → j < n → get_or (grid m n f) (i * n + j) d ≡ f i j
  get_or_grid_lem m n f i j d h g = get_or_joined_lem n (λ (i : ℕ). tab n (f i)) (λ i. length_tab n (f i)) m i j d h g ∙ get_or_tab_lem n (f i) j d g

  -- m rows of n stores are the grid, with the rest kept
  pub fill_grid : (l : List A) (m n : ℕ) (f : ℕ → ℕ → A) → m * n ≤ length l
      → iter m (λ (i : ℕ) (t : List A). iter n (λ (j : ℕ) (u : List A). set u (i * n + j) (f i j)) t) l ≡ grid m n f ++ drop (m * n) l
  fill_grid l zero n f h = rw (joined_none (λ (i : ℕ). tab n (f i)), zero-mul)
  fill_grid l (suc k) n f h =
      let s : suc k * n ≡ k * n + n = suc-mul k n in
      let x = grid k n f ++ drop (k * n) l in
      let lg = length_grid k n f in
      let kl : k * n ≤ length l = omega arith in
      let lx : length x ≡ length l = length-append (grid k n f) (drop (k * n) l) ∙ rw (lg, length-drop (k * n) l) (omega arith) in
      let b : k * n + n ≤ length x = omega arith in
      let tx : take (k * n) x ≡ grid k n f = take_at (grid k n f) (drop (k * n) l) (k * n) lg in
      let dx : drop (k * n + n) x ≡ drop (k * n + n) l
      = rw (← lg) (drop-append-add (grid k n f) (drop (length (grid k n f)) l) n ∙ drop-drop n (length (grid k n f)) l) in
      ap (λ (t : List A). iter n (λ (j : ℕ) (u : List A). set u (k * n + j) (f k j)) t) (fill_grid l k n f kl)
      ∙ fill_tab x (k * n) n (f k) b ∙ rw (joined_more k (λ (i : ℕ). tab n (f i)), tx, dx, s) (sym (append_assoc (grid k n f) (tab n (f k)) (drop (k * n + n) l)))

-- ---- tables and lists of lists end to end, and the same by rows
module _ {A : Type 0} where
  pub listed_from : (m k : ℕ) (f : ℕ → A) → listed m k f ≡ tab m (λ (j : ℕ). f (k + j))
  unfolding listed
  listed_from zero k f = refl
  listed_from (suc m) k f =
      ap (λ (x : A). x ∷ listed m (suc k) f) (ap f (sym (add-zero k)))
      ∙ ap (λ (l : List A). f (k + 0) ∷ l)
      (listed_from m (suc k) f ∙ listed_same m 0 (λ (j : ℕ). f (suc k + j)) (λ (j : ℕ). f (k + suc j)) (λ j p q. ap f (suc-add k j ∙ sym (add-suc k j))) ∙ sym (listed_shift (f 0) m 0 (λ (j : ℕ). f (k + j))))

  pub tab_add : (m n : ℕ) (f : ℕ → A) → tab (m + n) f ≡ tab m f ++ tab n (λ (j : ℕ). f (m + j))
  tab_add m n f = listed_add m n 0 f ∙ ap (λ (j : ℕ). tab m f ++ listed n j f) (zero-add m) ∙ ap (λ (l : List A). tab m f ++ l) (listed_from n m f)

  pub joined_same : (m : ℕ) (f g : ℕ → List A) → ((i : ℕ) → i < m → f i ≡ g i) → joined m f ≡ joined m g
  joined_same m f g h = ap flat (listed_same m 0 f g (λ j p q. h j (omega arith)))

  pub joined_add : (m n : ℕ) (f : ℕ → List A) → joined (m + n) f ≡ joined m f ++ joined n (λ (j : ℕ). f (m + j))
  joined_add m zero f = rw (add-zero, joined_none (λ (j : ℕ). f (m + j))) (sym (append-nil (joined m f)))
  joined_add m (suc n) f =
      ap (λ (k : ℕ). joined k f) (add-suc m n) ∙ joined_more (m + n) f ∙ ap (λ (l : List A). l ++ f (m + n)) (joined_add m n f)
      ∙ append_assoc (joined m f) (joined n (λ (j : ℕ). f (m + j))) (f (m + n)) ∙ ap (λ (l : List A). joined m f ++ l) (sym (joined_more n (λ (j : ℕ). f (m + j))))

  -- m times n lists are m rows of n
  pub joined_rows : (m n : ℕ) (f : ℕ → List A) → joined (m * n) f ≡ joined m (λ (i : ℕ). joined n (λ (j : ℕ). f (i * n + j)))
  joined_rows zero n f = rw (zero-mul n, joined_none f) (sym (joined_none (λ (i : ℕ). joined n (λ (j : ℕ). f (i * n + j)))))
  joined_rows (suc m) n f =
      ap (λ (k : ℕ). joined k f) (suc-mul m n) ∙ joined_add (m * n) n f ∙ ap (λ (l : List A). l ++ joined n (λ (j : ℕ). f (m * n + j))) (joined_rows m n f)
      ∙ sym (joined_more m (λ (i : ℕ). joined n (λ (j : ℕ). f (i * n + j))))

  -- and a table is a grid
  pub tab_rows : (m n : ℕ) (f : ℕ → A) → tab (m * n) f ≡ grid m n (λ (i j : ℕ). f (i * n + j))
  tab_rows zero n f = rw (zero-mul n, tab_none f) (sym (joined_none (λ (i : ℕ). tab n (λ (j : ℕ). f (i * n + j)))))
  tab_rows (suc m) n f =
      ap (λ (k : ℕ). tab k f) (suc-mul m n) ∙ tab_add (m * n) n f ∙ ap (λ (l : List A). l ++ tab n (λ (j : ℕ). f (m * n + j))) (tab_rows m n f)
      ∙ sym (joined_more m (λ (i : ℕ). tab n (λ (j : ℕ). f (i * n + j))))

  pub grid_same : (m n : ℕ) (f g : ℕ → ℕ → A) → ((i j : ℕ) → i < m → j < n → f i j ≡ g i j) → grid m n f ≡ grid m n g
  grid_same m n f g h = joined_same m (λ (i : ℕ). tab n (f i)) (λ (i : ℕ). tab n (g i)) (λ i p. listed_same n 0 (f i) (g i) (λ j a b. h i j p (omega arith)))

  -- a list is the grid of its cells
  pub grid_is : (m n : ℕ) (f : ℕ → ℕ → A) (o : A) (l : List A) → length l ≡ m * n → ((i j : ℕ) → i < m → j < n → get_or l (i * n + j) o ≡ f i j) → l ≡ grid m n f
  grid_is m n f o l e h =
      sym (tab_get_d_lem o l) ∙ ap (λ (k : ℕ). tab k (λ (x : ℕ). get_or l x o)) e ∙ tab_rows m n (λ (x : ℕ). get_or l x o)
      ∙ grid_same m n (λ (i j : ℕ). get_or l (i * n + j) o) f h

-- a list is the table of what stands at its places
pub tab_is : {A : Type 0} (n : ℕ) (f : ℕ → A) (o : A) (l : List A) → length l ≡ n → ((i : ℕ) → i < n → get_or l i o ≡ f i) → l ≡ tab n f
tab_is n f o l e h = sym (tab_get_d_lem o l) ∙ ap (λ (k : ℕ). tab k (λ (x : ℕ). get_or l x o)) e ∙ listed_same n 0 (λ (x : ℕ). get_or l x o) f (λ j p q. h j (omega arith))

-- ---- a table stored at the front, and over the whole
module _ {A : Type 0} (l t : List A) (k n : ℕ) (f : ℕ → A) (e : t ≡ iter k (λ (j : ℕ) (u : List A). set u j (f j)) l) (p : k ≤ n) (q : n ≤ k) where
  pub fill_front : n ≤ length l → t ≡ tab n f ++ drop n l
  fill_front h =
      let z : k ≡ n = omega arith in
      let y : 0 + n ≡ n = zero-add n in
      let b : 0 + n ≤ length l = omega arith in
      e ∙ ap (λ (m : ℕ). iter m (λ (j : ℕ) (u : List A). set u j (f j)) l) z
      ∙ iter_same n (λ (j : ℕ) (u : List A). set u j (f j)) (λ (j : ℕ) (u : List A). set u (0 + j) (f j)) l (λ j u g. rw zero-add)
      ∙ fill_tab l 0 n f b ∙ rw y

  pub fill_all : length l ≡ n → t ≡ tab n f
  fill_all h = let b : length l ≤ n = omega arith in fill_front (omega arith) ∙ rw (drop_of_length-le l b, append-nil)
