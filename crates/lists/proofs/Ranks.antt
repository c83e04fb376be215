-- Ranks: where each of n stands among them by a strict order, and that no two stand at one place and no place is left empty. Assumes nothing.
use mathlib.Core.Path.{◌≡◌, refl, sym, ap, ◌∙◌}
use mathlib.Core.Logic.{◌⊎◌, ⊎_elim}
use Prim.Native.Nat.{ℕ, zero, suc, ◌+◌, ◌-◌, ◌≤◌, ◌<◌}
use native.Mathlib.Nat.{zero-add, add-zero, add-suc}
use native.Mathlib.Omega.{arith}
use mathlib.Core.Bool.{Bool, true, false, ◌||◌}
use lib.Dec.{ltb, eqb}
use Rattle.lists.specs.Lists.{count, first}
use Rattle.lists.proofs.Counts.{count_same, count_none, count_all, count_either, count_less, count_unique, first_found, Found}
use Rattle.lists.proofs.Tests.{ltb_yes, ltb_is, ltb_no, eqb_yes, eqb_is, eqb_not, fails, same_test, below_or_not}

-- ---- n numbers below n, no two the same: each number below n is among them
module _ (n : ℕ) (f : ℕ → ℕ) (within : (i : ℕ) → i < n → f i < n) (apart : (i j : ℕ) → i < n → j < n → f i ≡ f j → i ≡ j) where
  -- how many are r, and how many are below m
  abbrev hits : ℕ → ℕ
  hits r = count (λ (i : ℕ). eqb (f i) r) n

  abbrev under : ℕ → ℕ
  under m = count (λ (i : ℕ). ltb (f i) m) n

  hits_most : (r : ℕ) → hits r ≤ 1
  hits_most r = count_unique (λ (i : ℕ). eqb (f i) r) n (λ i j a b d e. apart i j a b (eqb_is (f i) r d ∙ sym (eqb_is (f j) r e)))

  next : (x m : ℕ) → ltb x m || eqb x m ≡ ltb x (suc m)
  next x m = below_or_not x m
      (λ l. rw (ltb_yes x m l) (sym (ltb_yes x (suc m) (omega arith))))
      (λ l. rw (ltb_no x m l) (same_test (eqb x m) (ltb x (suc m)) (λ e. let z = eqb_is x m e in ltb_yes x (suc m) (omega arith)) (λ e. let z = ltb_is x (suc m) e in eqb_yes x m (omega arith))))

  under_suc : (m : ℕ) → under (suc m) ≡ under m + hits m
  under_suc m =
      count_same (λ (i : ℕ). ltb (f i) (suc m)) (λ (i : ℕ). ltb (f i) m || eqb (f i) m) n (λ i l. sym (next (f i) m))
      ∙ sym (count_either (λ (i : ℕ). ltb (f i) m) (λ (i : ℕ). eqb (f i) m) n (λ i l d e. let x = ltb_is (f i) m d in let y = eqb_is (f i) m e in omega arith))

  under_none : under 0 ≡ 0
  under_none = count_none (λ (i : ℕ). ltb (f i) 0) n (λ i l. ltb_no (f i) 0 (omega arith))

  under_add : (m k : ℕ) → under (m + k) ≤ under m + k
  under_add m zero = rw (add-zero m) (omega arith)
  under_add m (suc k) = let r = under_add m k in let e = under_suc (m + k) in let h = hits_most (m + k) in rw (add-suc m k) (omega arith)

  under_all : under n ≡ n
  under_all = count_all (λ (i : ℕ). ltb (f i) n) n (λ i l. ltb_yes (f i) n (within i l))

  pub hits_one : (r : ℕ) → r < n → 1 ≤ hits r
  hits_one r l =
      let a = under_add 0 r in
      let b = under_suc r in
      let c = under_add (suc r) (n - suc r) in
      let z : under (0 + r) ≡ under r = ap under (zero-add r) in
      let y : under (suc r + (n - suc r)) ≡ under n = ap under (omega arith) in
      let x = under_all in
      let w = under_none in
      omega arith

  -- the first that is r
  pub place_found : (r : ℕ) → r < n → Found (λ (i : ℕ). eqb (f i) r) n
  place_found r l = first_found (λ (i : ℕ). eqb (f i) r) n (hits_one r l)

  pub place_is : (r : ℕ) → r < n → f (first (λ (i : ℕ). eqb (f i) r) n) ≡ r
  place_is r l = eqb_is (f (first (λ (i : ℕ). eqb (f i) r) n)) r (place_found r l).holds

  -- and the only one
  pub place_only : (i : ℕ) → i < n → first (λ (j : ℕ). eqb (f j) (f i)) n ≡ i
  place_only i l = apart (first (λ (j : ℕ). eqb (f j) (f i)) n) i (place_found (f i) (within i l)).within l (place_is (f i) (within i l))

-- ---- by a strict order: `before k i` says that k stands before i
pub record Strict (n : ℕ) (before : ℕ → ℕ → Bool) : Type 0 where
  pub never_self : (i : ℕ) → i < n → before i i ≡ true → ⊥
  pub goes_on : (i j k : ℕ) → i < n → j < n → k < n → before i j ≡ true → before j k ≡ true → before i k ≡ true
  pub either_way : (i j : ℕ) → i < n → j < n → ¬ (i ≡ j) → (before i j ≡ true) ⊎ (before j i ≡ true)

module _ (n : ℕ) (before : ℕ → ℕ → Bool) (S : Strict n before) where
  -- how many stand before i
  abbrev pub rank : ℕ → ℕ
  rank i = count (λ (k : ℕ). before k i) n

  -- what stands before ranks lower
  pub rank_rises : (i j : ℕ) → i < n → j < n → before i j ≡ true → rank i < rank j
  rank_rises i j a b h = count_less (λ (k : ℕ). before k i) (λ (k : ℕ). before k j) n i (λ k l e. S.goes_on k i j l a b e h) a (fails (before i i) (S.never_self i a)) h

  pub rank_within : (i : ℕ) → i < n → rank i < n
  rank_within i a =
      let e = count_all (λ (k : ℕ). true) n (λ k l. refl) in
      let h = count_less (λ (k : ℕ). before k i) (λ (k : ℕ). true) n i (λ k l d. refl) a (fails (before i i) (S.never_self i a)) refl in
      omega arith

  pub rank_apart : (i j : ℕ) → i < n → j < n → rank i ≡ rank j → i ≡ j
  rank_apart i j a b e = go (eqb i j) refl
    where
      go : (t : Bool) → eqb i j ≡ t → i ≡ j
      go true h = eqb_is i j h
      go false h = absurd (⊎_elim (λ d. let r = rank_rises i j a b d in omega arith) (λ d. let r = rank_rises j i b a d in omega arith) (S.either_way i j a b (eqb_not i j h)))
