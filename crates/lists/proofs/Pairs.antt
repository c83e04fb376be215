-- What goes along the pairs p < q below n is two loops, one within the other; and what goes along a list and leaves the state. Assumes nothing.
use Rattle.std.specs.Prelude.{Result, Ok}
use mathlib.Core.Path.{◌≡◌, refl, sym, ap, ◌∙◌}
use Prim.Native.Nat.{ℕ, zero, suc, ◌+◌, ◌-◌}
use native.Mathlib.Numerals.{add-one}
use mathlib.Core.Bool.{Bool, true, false, ◌&&◌, true≢false}
use mathlib.Core.List.{List, [], ◌∷◌, ◌++◌}
use Rattle.answers.specs.Outcome.{bind}
use Rattle.answers.proofs.Outcomes.{bind_assoc, bind_cong}
use Rattle.lists.specs.Lists.{listed, tab, flat, joined, pairs, folded, iter, iter_from}
use Rattle.lists.specs.Walks.{turning, along}
use Rattle.lists.proofs.Loops.{iter_same}
use Rattle.lists.proofs.Tables.{tab_none, tab_more, joined_none, joined_more, listed_from}

-- the pairs of p
abbrev row : ℕ → ℕ → List (ℕ × ℕ)
row n p = listed (n - suc p) (suc p) (λ (q : ℕ). (p, q))

-- ---- turns that can refuse
module _ {E A : Type 0} where
  pub turning_same : (m k : ℕ) (f g : ℕ → A → Result A E) (a : A) → ((i : ℕ) (b : A) → f i b ≡ g i b) → turning m k f a ≡ turning m k g a
  unfolding turning
  turning_same zero k f g a h = refl
  turning_same (suc m) k f g a h = ap (λ (o : Result A E). bind o (λ b. turning m (suc k) f b)) (h k a) ∙ bind_cong (g k a) (λ b. turning m (suc k) f b) (λ b. turning m (suc k) g b) (λ b e. turning_same m (suc k) f g b h)

module _ {E X A : Type 0} (f : X → A → Result A E) where
  pub along_append : (xs ys : List X) (a : A) → along (xs ++ ys) f a ≡ bind (along xs f a) (λ b. along ys f b)
  unfolding along
  along_append [] ys a = refl
  along_append (x ∷ xs) ys a = bind_cong (f x a) (λ b. along (xs ++ ys) f b) (λ b. bind (along xs f b) (λ c. along ys f c)) (λ b e. along_append xs ys b) ∙ sym (bind_assoc (f x a) (λ b. along xs f b) (λ c. along ys f c))

  pub along_listed : (m k : ℕ) (g : ℕ → X) (a : A) → along (listed m k g) f a ≡ turning m k (λ (i : ℕ). f (g i)) a
  unfolding along turning listed
  along_listed zero k g a = refl
  along_listed (suc m) k g a = bind_cong (f (g k) a) (λ b. along (listed m (suc k) g) f b) (λ b. turning m (suc k) (λ (i : ℕ). f (g i)) b) (λ b e. along_listed m (suc k) g b)

  pub along_flat : (m k : ℕ) (h : ℕ → List X) (a : A) → along (flat (listed m k h)) f a ≡ turning m k (λ (i : ℕ). along (h i) f) a
  unfolding along turning listed flat
  along_flat zero k h a = refl
  along_flat (suc m) k h a =
      along_append (h k) (flat (listed m (suc k) h)) a
      ∙ bind_cong (along (h k) f a) (λ b. along (flat (listed m (suc k) h)) f b) (λ b. turning m (suc k) (λ (i : ℕ). along (h i) f) b) (λ b e. along_flat m (suc k) h b)

-- p outside, q inside
pub along_pairs : {E A : Type 0} (n : ℕ) (f : ℕ × ℕ → A → Result A E) (a : A) → along (pairs n) f a ≡ turning n 0 (λ (p : ℕ). turning (n - (p + 1)) (p + 1) (λ (q : ℕ). f (p, q))) a
unfolding pairs
along_pairs n f a =
    along_flat f n 0 (row n) a
    ∙ turning_same n 0 (λ (p : ℕ). along (row n p) f) (λ (p : ℕ). turning (n - (p + 1)) (p + 1) (λ (q : ℕ). f (p, q))) a
    (λ p b. along_listed f (n - suc p) (suc p) (λ (q : ℕ). (p, q)) b ∙ ap (λ (j : ℕ). turning (n - j) j (λ (q : ℕ). f (p, q)) b) (sym (add-one p)))

-- ---- a state that every pair alters
module _ {X S : Type 0} (f : X → S → S) where
  pub folded_append : (xs ys : List X) (s : S) → folded (xs ++ ys) f s ≡ folded ys f (folded xs f s)
  unfolding folded
  folded_append [] ys s = refl
  folded_append (x ∷ xs) ys s = folded_append xs ys (f x s)

  pub folded_tab : (m : ℕ) (g : ℕ → X) (s : S) → folded (tab m g) f s ≡ iter m (λ (i : ℕ). f (g i)) s
  unfolding folded
  folded_tab zero g s = rw (tab_none g)
  folded_tab (suc m) g s = rw (tab_more m g, folded_append (tab m g) (g m ∷ []) s) (ap (f (g m)) (folded_tab m g s))

  pub folded_joined : (m : ℕ) (h : ℕ → List X) (s : S) → folded (joined m h) f s ≡ iter m (λ (i : ℕ). folded (h i) f) s
  unfolding folded
  folded_joined zero h s = rw (joined_none h)
  folded_joined (suc m) h s = rw (joined_more m h, folded_append (joined m h) (h m) s) (ap (folded (h m) f) (folded_joined m h s))

pub folded_pairs : {S : Type 0} (n : ℕ) (f : ℕ × ℕ → S → S) (s : S) → folded (pairs n) f s ≡ iter n (λ (p : ℕ). iter_from (p + 1) n (λ (q : ℕ). f (p, q))) s
unfolding pairs iter_from
folded_pairs n f s =
    folded_joined f n (row n) s
    ∙ iter_same n (λ (p : ℕ). folded (row n p) f) (λ (p : ℕ). iter_from (p + 1) n (λ (q : ℕ). f (p, q))) s
    (λ p t l. ap (λ (x : List (ℕ × ℕ)). folded x f t) (listed_from (n - suc p) (suc p) (λ (q : ℕ). (p, q)))
    ∙ folded_tab f (n - suc p) (λ (j : ℕ). (p, suc p + j)) t
    ∙ ap (λ (j : ℕ). iter (n - j) (λ (i : ℕ). f (p, j + i)) t) (sym (add-one p)))

-- ---- where a test holds of each, and the turn of one for which it holds leaves the state, all leave it
module _ {X : Type 0} (t : X → Bool) where
  folded_not : (xs : List X) → folded xs (λ (x : X) (b : Bool). b && t x) false ≡ false
  unfolding folded
  folded_not [] = refl
  folded_not (x ∷ xs) = folded_not xs

  pub along_idle : {E A : Type 0} (f : X → A → Result A E) (a : A) → ((x : X) → t x ≡ true → f x a ≡ Ok a) → (xs : List X) → folded xs (λ (x : X) (b : Bool). b && t x) true ≡ true → along xs f a ≡ Ok a
  unfolding folded along
  along_idle f a h [] e = refl
  along_idle {E} {A} f a h (x ∷ xs) e = go (t x) refl e (along_idle f a h xs)
    where
      go : (b : Bool) → t x ≡ b → folded xs (λ (y : X) (c : Bool). c && t y) b ≡ true → (folded xs (λ (y : X) (c : Bool). c && t y) true ≡ true → along xs f a ≡ Ok a) → bind (f x a) (λ c. along xs f c) ≡ Ok a
      go true d k rest = ap (λ (o : Result A E). bind o (λ c. along xs f c)) (h x d) ∙ rest k
      go false d k rest = absurd (true≢false (sym k ∙ folded_not xs))
