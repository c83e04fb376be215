-- Laws of walks: the parts of an answer, what holds of each zone, and THE RESTART. Assumes nothing.
use Rattle.std.specs.Prelude.{Result, Ok}
use mathlib.Core.Path.{◌≡◌, refl, sym, ap, ◌∙◌, subst}
use Prim.Native.Nat.{ℕ, zero, suc, ◌+◌, ◌≤◌, ◌<◌}
use native.Mathlib.Nat.{add-zero, add-suc, suc-add, not-suc-le-zero, le_of_suc-le-suc, le_refl}
use native.Mathlib.Omega.{arith}
use mathlib.Core.List.{List, [], ◌∷◌, ◌++◌}
use lib.ListN.{length, take, get_or}
use Rattle.answers.specs.Outcome.{bind}
use Rattle.answers.proofs.Outcomes.{bind_assoc, bind_ok, bind_eta, bind_same, ok_inj}
use Rattle.lists.specs.Lists.{listed}
use Rattle.lists.specs.Walks.{every, walk, state_at}

module _ {E S X Y : Type 0} (f : ℕ → S → X → Result (S × Y) E) where
  -- the parts of an answer of a walk over one zone and more
  pub walk_cons : (k : ℕ) (s : S) (x : X) (xs : List X) (tr : List (S × Y)) → walk f k s (x ∷ xs) ≡ Ok tr
      → (r : S × Y) × (f k s x ≡ Ok r) × ((rs : List (S × Y)) × (walk f (suc k) r.0 xs ≡ Ok rs) × (r ∷ rs ≡ tr))
  unfolding walk
  walk_cons k s x xs tr h =
      let a = bind_ok (f k s x) (λ r. bind (walk f (suc k) r.0 xs) (λ rs. Ok (r ∷ rs))) tr h in
      let b = bind_ok (walk f (suc k) a.0.0 xs) (λ rs. Ok (a.0 ∷ rs)) tr a.2 in
      (a.0, a.1, (b.0, b.1, ok_inj b.2))

  pub walk_length : (k : ℕ) (s : S) (xs : List X) (tr : List (S × Y)) → walk f k s xs ≡ Ok tr → length tr ≡ length xs
  unfolding walk
  walk_length k s [] tr h = ap length (sym (ok_inj h))
  walk_length k s (x ∷ xs) tr h = let w = walk_cons k s x xs tr h in ap length (sym w.2.2) ∙ ap suc (walk_length (suc k) w.0.0 xs w.2.0 w.2.1)

  -- THE RESTART: over the same first z zones a walk comes to the state that it had there, and goes on from it
  pub walk_restart : (k : ℕ) (s : S) (xs : List X) (tr : List (S × Y)) → walk f k s xs ≡ Ok tr → (z : ℕ) → z ≤ length xs → (ys : List X)
      → walk f k s (take z xs ++ ys) ≡ bind (walk f (k + z) (state_at s tr z) ys) (λ rs. Ok (take z tr ++ rs))
  unfolding walk
  walk_restart k s xs tr h zero le ys = ap (λ (j : ℕ). walk f j s ys) (sym (add-zero k)) ∙ sym (bind_eta (walk f (k + 0) s ys))
  walk_restart k s [] tr h (suc z) le ys = absurd (not-suc-le-zero le)
  walk_restart k s (x ∷ xs) tr h (suc z) le ys =
      let w = walk_cons k s x xs tr h in
      let r = w.0 in
      let rs = w.2.0 in
      let ih = walk_restart (suc k) r.0 xs rs w.2.1 z (le_of_suc-le-suc le) ys in
      ap (λ (o : Result (S × Y) E). bind o (λ r'. bind (walk f (suc k) r'.0 (take z xs ++ ys)) (λ q. Ok (r' ∷ q)))) w.1
      ∙ ap (λ (o : Result (List (S × Y)) E). bind o (λ q. Ok (r ∷ q))) ih
      ∙ bind_assoc (walk f (suc k + z) (state_at r.0 rs z) ys) (λ q. Ok (take z rs ++ q)) (λ q. Ok (r ∷ q))
      ∙ ap (λ (j : ℕ). bind (walk f j (state_at r.0 rs z) ys) (λ q. Ok (r ∷ (take z rs ++ q)))) (suc-add k z ∙ sym (add-suc k z))
      ∙ ap (λ (t : List (S × Y)). bind (walk f (k + suc z) (state_at s t (suc z)) ys) (λ q. Ok (take (suc z) t ++ q))) w.2.2

-- two rules that do the same make the same walk
module _ {E S X Y : Type 0} (f g : ℕ → S → X → Result (S × Y) E) (h : (k : ℕ) (s : S) (x : X) → f k s x ≡ g k s x) where
  pub walk_cong : (k : ℕ) (s : S) (xs : List X) → walk f k s xs ≡ walk g k s xs
  unfolding walk
  walk_cong k s [] = refl
  walk_cong k s (x ∷ xs) = bind_same (f k s x) (g k s x) _ _ (h k s x) (λ r. bind_same _ _ _ _ (walk_cong (suc k) r.0 xs) (λ rs. refl))

-- P holds of each, the first being number k
module _ {R : Type 0} (P : ℕ → R → Type 0) where
  abbrev pub All : ℕ → List R → Type 0
  All k [] = Unit {0}
  All k (r ∷ rs) = P k r × All (suc k) rs

  pub all_at : (k : ℕ) (rs : List R) → All k rs → (j : ℕ) (o : R) → j < length rs → P (k + j) (get_or rs j o)
  all_at k [] a j o lt = absurd (not-suc-le-zero lt)
  all_at k (r ∷ rs) a zero o lt = subst (λ (m : ℕ). P m r) (sym (add-zero k)) a.0
  all_at k (r ∷ rs) a (suc j) o lt = subst (λ (m : ℕ). P m (get_or rs j o)) (suc-add k j ∙ sym (add-suc k j)) (all_at (suc k) rs a.1 j o (le_of_suc-le-suc lt))

  pub listed_all : (m k : ℕ) (f : ℕ → R) → ((j : ℕ) → k ≤ j → j < k + m → P j (f j)) → All k (listed m k f)
  unfolding listed
  listed_all zero k f h = tt
  listed_all (suc m) k f h = (h k (le_refl k) (omega arith), listed_all m (suc k) f (λ j a b. h j (omega arith) (omega arith)))

module _ {E X Y : Type 0} (f : ℕ → X → Result Y E) where
  pub every_cons : (k : ℕ) (x : X) (xs : List X) (tr : List Y) → every f k (x ∷ xs) ≡ Ok tr
      → (y : Y) × (f k x ≡ Ok y) × ((ys : List Y) × (every f (suc k) xs ≡ Ok ys) × (y ∷ ys ≡ tr))
  unfolding every
  every_cons k x xs tr h =
      let a = bind_ok (f k x) (λ r. bind (every f (suc k) xs) (λ rs. Ok (r ∷ rs))) tr h in
      let b = bind_ok (every f (suc k) xs) (λ rs. Ok (a.0 ∷ rs)) tr a.2 in
      (a.0, a.1, (b.0, b.1, ok_inj b.2))

  pub every_length : (k : ℕ) (xs : List X) (tr : List Y) → every f k xs ≡ Ok tr → length tr ≡ length xs
  unfolding every
  every_length k [] tr h = ap length (sym (ok_inj h))
  every_length k (x ∷ xs) tr h = let w = every_cons k x xs tr h in ap length (sym w.2.2) ∙ ap suc (every_length (suc k) xs w.2.0 w.2.1)

  pub every_restart : (k : ℕ) (xs : List X) (tr : List Y) → every f k xs ≡ Ok tr → (z : ℕ) → z ≤ length xs → (ys : List X)
      → every f k (take z xs ++ ys) ≡ bind (every f (k + z) ys) (λ rs. Ok (take z tr ++ rs))
  unfolding every
  every_restart k xs tr h zero le ys = ap (λ (j : ℕ). every f j ys) (sym (add-zero k)) ∙ sym (bind_eta (every f (k + 0) ys))
  every_restart k [] tr h (suc z) le ys = absurd (not-suc-le-zero le)
  every_restart k (x ∷ xs) tr h (suc z) le ys =
      let w = every_cons k x xs tr h in
      let r = w.0 in
      let rs = w.2.0 in
      let ih = every_restart (suc k) xs rs w.2.1 z (le_of_suc-le-suc le) ys in
      ap (λ (o : Result Y E). bind o (λ r'. bind (every f (suc k) (take z xs ++ ys)) (λ q. Ok (r' ∷ q)))) w.1
      ∙ ap (λ (o : Result (List Y) E). bind o (λ q. Ok (r ∷ q))) ih
      ∙ bind_assoc (every f (suc k + z) ys) (λ q. Ok (take z rs ++ q)) (λ q. Ok (r ∷ q))
      ∙ ap (λ (j : ℕ). bind (every f j ys) (λ q. Ok (r ∷ (take z rs ++ q)))) (suc-add k z ∙ sym (add-suc k z))
      ∙ ap (λ (t : List Y). bind (every f (k + suc z) ys) (λ q. Ok (take (suc z) t ++ q))) w.2.2

  module _ (Q : ℕ → X → Type 0) (P : ℕ → Y → Type 0) (makes : (k : ℕ) (x : X) (y : Y) → Q k x → f k x ≡ Ok y → P k y) where
    pub every_all : (k : ℕ) (xs : List X) (tr : List Y) → All Q k xs → every f k xs ≡ Ok tr → All P k tr
    unfolding every
    every_all k [] tr a h = subst (λ (l : List Y). All P k l) (ok_inj h) tt
    every_all k (x ∷ xs) tr a h =
        let w = every_cons k x xs tr h in
        subst (λ (l : List Y). All P k l) w.2.2 (makes k x w.0 a.0 w.1, every_all (suc k) xs w.2.0 a.1 w.2.1)

module _ {E S X Y : Type 0} (f : ℕ → S → X → Result (S × Y) E) (Q : ℕ → X → Type 0) (P : ℕ → S × Y → Type 0) (makes : (k : ℕ) (s : S) (x : X) (r : S × Y) → Q k x → f k s x ≡ Ok r → P k r) where
  pub walk_all : (k : ℕ) (s : S) (xs : List X) (tr : List (S × Y)) → All Q k xs → walk f k s xs ≡ Ok tr → All P k tr
  unfolding walk
  walk_all k s [] tr a h = subst (λ (l : List (S × Y)). All P k l) (ok_inj h) tt
  walk_all k s (x ∷ xs) tr a h =
      let w = walk_cons f k s x xs tr h in
      subst (λ (l : List (S × Y)). All P k l) w.2.2 (makes k s x w.0 a.0 w.1, walk_all (suc k) w.0.0 xs w.2.0 a.1 w.2.1)

module _ {S Y : Type 0} where
  -- the state left of zone j + 1 is what zone j left
  pub state_at_lem : (s : S) (tr : List (S × Y)) (j : ℕ) (o : S × Y) → j < length tr → state_at s tr (suc j) ≡ (get_or tr j o).0
  state_at_lem s [] j o lt = absurd (not-suc-le-zero lt)
  state_at_lem s (r ∷ tr) zero o lt = refl
  state_at_lem s (r ∷ tr) (suc j) o lt = state_at_lem r.0 tr j o (le_of_suc-le-suc lt)

-- the same, of each zone with the state that it started from
module _ {S Y : Type 0} (P : ℕ → S → S × Y → Type 0) where
  abbrev pub AllFrom : ℕ → S → List (S × Y) → Type 0
  AllFrom k s [] = Unit {0}
  AllFrom k s (r ∷ rs) = P k s r × AllFrom (suc k) r.0 rs

  pub from_at : (k : ℕ) (s : S) (rs : List (S × Y)) → AllFrom k s rs → (j : ℕ) (o : S × Y) → j < length rs → P (k + j) (state_at s rs j) (get_or rs j o)
  from_at k s [] a j o lt = absurd (not-suc-le-zero lt)
  from_at k s (r ∷ rs) a zero o lt = subst (λ (m : ℕ). P m s r) (sym (add-zero k)) a.0
  from_at k s (r ∷ rs) a (suc j) o lt = subst (λ (m : ℕ). P m (state_at r.0 rs j) (get_or rs j o)) (suc-add k j ∙ sym (add-suc k j)) (from_at (suc k) r.0 rs a.1 j o (le_of_suc-le-suc lt))

module _ {E S X Y : Type 0} (f : ℕ → S → X → Result (S × Y) E) (Q : ℕ → X → Type 0) (P : ℕ → S → S × Y → Type 0) (makes : (k : ℕ) (s : S) (x : X) (r : S × Y) → Q k x → f k s x ≡ Ok r → P k s r) where
  pub walk_from : (k : ℕ) (s : S) (xs : List X) (tr : List (S × Y)) → All Q k xs → walk f k s xs ≡ Ok tr → AllFrom P k s tr
  unfolding walk
  walk_from k s [] tr a h = subst (λ (l : List (S × Y)). AllFrom P k s l) (ok_inj h) tt
  walk_from k s (x ∷ xs) tr a h =
      let w = walk_cons f k s x xs tr h in
      subst (λ (l : List (S × Y)). AllFrom P k s l) w.2.2 (makes k s x w.0 a.0 w.1, walk_from (suc k) w.0.0 xs w.2.0 a.1 w.2.1)
