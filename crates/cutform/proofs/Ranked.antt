-- The order of the singular values: each value has a place of its own below n, each place below n has a value, and what is sorted falls. Assumes nothing.
use mathlib.Core.Path.{◌≡◌, refl, sym, ap, ◌∙◌}
use mathlib.Core.Logic.{◌⊎◌, inl, inr, ⊎_elim}
use Prim.Native.Nat.{ℕ, suc, ◌+◌, ◌≤◌, ◌<◌, max}
use native.Mathlib.Omega.{arith}
use native.Mathlib.Nat.{le_of_lt, le_refl}
use mathlib.Core.Bool.{Bool, true, false, ◌&&◌, ◌||◌, true≢false}
use mathlib.Core.List.{List}
use lib.Dec.{ltb}
use lib.ListN.{length, get_or, set, get_or-eq_default}
use lib.Ieee.{Float, nan, inf, fin, lt, eq, of_bits}
use Rattle.numbers.specs.Arithmetic.{zero64}
use Rattle.numbers.specs.Finite.{finite}
use Rattle.lists.specs.Lists.{count, iter}
use Rattle.lists.specs.Floats.{at, all_finite}
use Rattle.lists.proofs.Altered.{altered, altered_length, altered_at}
use Rattle.lists.proofs.Counts.{count_either, count_below, count_most, count_all, count_within}
use Rattle.lists.proofs.Floats.{finite_get_d_lem}
use Rattle.lists.proofs.Order.{lt_or_eq, eq_swap, lt_not_eq, lt_not_self, lt_then_lt, lt_then_eq, eq_then_lt, eq_then_eq}
use Rattle.lists.proofs.Ranks.{Strict, rank, rank_rises, rank_within, rank_apart, place_found, place_is, place_only}
use Rattle.lists.proofs.Tables.{length_tab, get_or_tab_lem, get_d_any, tab_is, listed_same, fill_all}
use Rattle.lists.proofs.Turns.{iter_done}
use Rattle.lists.proofs.Tests.{ltb_yes, ltb_is, both, fails, below_or_not}
use Rattle.cutform.specs.Values.{place_in, index_at, order, sorted, threshold_of, kept_rank, dropped_from}

module _ (n : ℕ) (sv : List Float) (long : length sv ≡ n) (fine : all_finite sv ≡ true) where
  -- value k stands before value i
  before : ℕ → ℕ → Bool
  before k i = lt (at sv i) (at sv k) || (eq (at sv k) (at sv i) && ltb k i)

  good : (i : ℕ) → i < n → finite (at sv i) ≡ true
  good i l = finite_get_d_lem sv i nan (omega arith) fine

  either : (a b : Bool) → a || b ≡ true → (a ≡ true) ⊎ (b ≡ true)
  either true b e = inl refl
  either false b e = inr e

  larger : (k i : ℕ) → lt (at sv i) (at sv k) ≡ true → before k i ≡ true
  unfolding before
  larger k i e = rw e

  earlier : (k i : ℕ) → eq (at sv k) (at sv i) ≡ true → k < i → before k i ≡ true
  unfolding before
  earlier k i e l = let t = ltb_yes k i l in go (lt (at sv i) (at sv k)) (rw (e, t))
    where
      go : (b : Bool) → eq (at sv k) (at sv i) && ltb k i ≡ true → b || (eq (at sv k) (at sv i) && ltb k i) ≡ true
      go true h = refl
      go false h = h

  -- taken apart: by being larger, or by being equal and earlier
  abbrev Ahead : ℕ → ℕ → Type 0
  Ahead k i = (lt (at sv i) (at sv k) ≡ true) ⊎ ((eq (at sv k) (at sv i) ≡ true) × (k < i))

  ahead : (k i : ℕ) → before k i ≡ true → Ahead k i
  unfolding before
  ahead k i e = ⊎_elim (λ h. inl h) (λ h. let w = both (eq (at sv k) (at sv i)) (ltb k i) h in inr (w.0, ltb_is k i w.1)) (either (lt (at sv i) (at sv k)) (eq (at sv k) (at sv i) && ltb k i) e)

  strict : Strict n before
  strict = record { never_self = self; goes_on = on; either_way = way }
    where
      not_self : (i : ℕ) → i < n → Ahead i i → ⊥
      not_self i a (inl h) = lt_not_self (at sv i) (good i a) h
      not_self i a (inr h) = let l = h.1 in omega arith

      self : (i : ℕ) → i < n → before i i ≡ true → ⊥
      self i a e = not_self i a (ahead i i e)

      go : (i j k : ℕ) → i < n → j < n → k < n → Ahead i j → Ahead j k → before i k ≡ true
      go i j k a b c (inl h) (inl g) = larger i k (lt_then_lt (at sv k) (at sv j) (at sv i) (good k c) (good j b) (good i a) g h)
      go i j k a b c (inl h) (inr g) = larger i k (eq_then_lt (at sv k) (at sv j) (at sv i) (good k c) (good j b) (good i a) (eq_swap (at sv j) (at sv k) (good j b) (good k c) g.0) h)
      go i j k a b c (inr h) (inl g) = larger i k (lt_then_eq (at sv k) (at sv j) (at sv i) (good k c) (good j b) (good i a) g (eq_swap (at sv i) (at sv j) (good i a) (good j b) h.0))
      go i j k a b c (inr h) (inr g) = let x = h.1 in let y = g.1 in earlier i k (eq_then_eq (at sv i) (at sv j) (at sv k) (good i a) (good j b) (good k c) h.0 g.0) (omega arith)

      on : (i j k : ℕ) → i < n → j < n → k < n → before i j ≡ true → before j k ≡ true → before i k ≡ true
      on i j k a b c h g = go i j k a b c (ahead i j h) (ahead j k g)

      way : (i j : ℕ) → i < n → j < n → ¬ (i ≡ j) → (before i j ≡ true) ⊎ (before j i ≡ true)
      way i j a b d =
          ⊎_elim (λ h. inr (larger j i h))
          (λ g. ⊎_elim
          (λ e. below_or_not i j (λ l. inl (earlier i j e l)) (λ l. inr (earlier j i (eq_swap (at sv i) (at sv j) (good i a) (good j b) e) (omega arith))))
          (λ h. inl (larger i j h)) g)
          (lt_or_eq (at sv i) (at sv j) (good i a) (good j b))

  -- the place of a value is how many stand before it
  place : (i : ℕ) → i < n → place_in n sv i ≡ rank n before strict i
  unfolding place_in before
  place i a =
      ap (λ (m : ℕ). count (λ (j : ℕ). lt (at sv i) (at sv j)) n + m) (count_below (λ (j : ℕ). eq (at sv j) (at sv i)) i n (le_of_lt a))
      ∙ count_either (λ (j : ℕ). lt (at sv i) (at sv j)) (λ (j : ℕ). eq (at sv j) (at sv i) && ltb j i) n
      (λ j l h g. lt_not_eq (at sv i) (at sv j) (good i a) (good j l) h (eq_swap (at sv j) (at sv i) (good j l) (good i a) (both (eq (at sv j) (at sv i)) (ltb j i) g).0))

  pub rank_lt : (i : ℕ) → i < n → place_in n sv i < n
  rank_lt i a = let e = place i a in let h = rank_within n before strict i a in omega arith

  pub rank_own : (i j : ℕ) → i < n → j < n → place_in n sv i ≡ place_in n sv j → i ≡ j
  rank_own i j a b e = rank_apart n before strict i j a b (sym (place i a) ∙ e ∙ place j b)

  pub index_lt : (r : ℕ) → r < n → index_at n sv r < n
  unfolding index_at
  index_lt r l = (place_found n (place_in n sv) rank_lt rank_own r l).within

  pub rank_index : (r : ℕ) → r < n → place_in n sv (index_at n sv r) ≡ r
  unfolding index_at
  rank_index r l = place_is n (place_in n sv) rank_lt rank_own r l

  pub index_rank : (i : ℕ) → i < n → index_at n sv (place_in n sv i) ≡ i
  unfolding index_at
  index_rank i l = place_only n (place_in n sv) rank_lt rank_own i l

  -- ---- for the loops: indices stored each at its place are the order, and the values at them are sorted
  pub order_is : (k : ℕ) (js l : List ℕ) → l ≡ iter k (λ (i : ℕ) (t : List ℕ). set t (place_in n sv i) i) js → k ≤ n → n ≤ k → length js ≡ n → l ≡ order n sv
  unfolding order
  order_is k js l e p q m =
      iter_done (λ (i : ℕ) (t : List ℕ). set t (place_in n sv i) i) js k n l e p q
      ∙ tab_is n (index_at n sv) 0 (altered 0 (place_in n sv) (λ i x. i) js n) (altered_length 0 (place_in n sv) (λ i x. i) js n ∙ m)
      (λ r h. ap (λ (y : ℕ). get_or (altered 0 (place_in n sv) (λ i x. i) js n) y 0) (sym (rank_index r h))
      ∙ altered_at 0 (place_in n sv) (λ i x. i) js n rank_own (λ i a. let z = rank_lt i a in omega arith) n (index_at n sv r) (le_refl n) (index_lt r h))

  pub order_long : (js : List ℕ) → js ≡ order n sv → length js ≡ n
  unfolding order
  order_long js e = ap length e ∙ length_tab n (index_at n sv)

  pub order_at : (js : List ℕ) → js ≡ order n sv → (r : ℕ) → r < n → get_or js r 0 ≡ index_at n sv r
  unfolding order
  order_at js e r l = ap (λ (x : List ℕ). get_or x r 0) e ∙ get_or_tab_lem n (index_at n sv) r 0 l

  pub order_lt : (js : List ℕ) → js ≡ order n sv → (r : ℕ) → r < n → get_or js r 0 < n
  order_lt js e r l = let h = index_lt r l in let d = order_at js e r l in omega arith

  pub sorted_is : (js : List ℕ) → js ≡ order n sv → (k : ℕ) (ss l : List Float) → l ≡ iter k (λ (r : ℕ) (t : List Float). set t r (at sv (get_or js r 0))) ss → k ≤ n → n ≤ k → length ss ≡ n → l ≡ sorted n sv
  unfolding sorted
  sorted_is js e k ss l d p q m =
      fill_all ss l k n (λ (r : ℕ). at sv (get_or js r 0)) d p q m
      ∙ listed_same n 0 (λ (r : ℕ). at sv (get_or js r 0)) (λ (r : ℕ). at sv (index_at n sv r)) (λ r a b. ap (at sv) (order_at js e r (omega arith)))

  -- ---- for readers: what is sorted falls, equal values stand by lower index, and it is the values, each once
  pub record InOrder : Type 0 where
    pub falls : (r s : ℕ) → r < s → s < n → lt (at (sorted n sv) r) (at (sorted n sv) s) ≡ false
    pub ties : (r s : ℕ) → r < s → s < n → eq (at (sorted n sv) r) (at (sorted n sv) s) ≡ true → get_or (order n sv) r 0 < get_or (order n sv) s 0
    pub taken : (r : ℕ) → r < n → at (sorted n sv) r ≡ at sv (get_or (order n sv) r 0)
    pub within : (r : ℕ) → r < n → get_or (order n sv) r 0 < n
    pub once : (r s : ℕ) → r < n → s < n → get_or (order n sv) r 0 ≡ get_or (order n sv) s 0 → r ≡ s
    pub all : (i : ℕ) → i < n → (r : ℕ) × (r < n) × (get_or (order n sv) r 0 ≡ i)

  sorted_at : (r : ℕ) → r < n → at (sorted n sv) r ≡ at sv (index_at n sv r)
  unfolding sorted
  sorted_at r l = get_or_tab_lem n (λ (s : ℕ). at sv (index_at n sv s)) r nan l

  -- what stands before stands at a lower place
  place_rises : (r s : ℕ) → r < n → s < n → before (index_at n sv s) (index_at n sv r) ≡ true → s < r
  place_rises r s a b h =
      let i = index_at n sv r in
      let j = index_at n sv s in
      let x = rank_rises n before strict j i (index_lt s b) (index_lt r a) h in
      let y = place i (index_lt r a) in
      let z = place j (index_lt s b) in
      let u = rank_index r a in
      let w = rank_index s b in
      omega arith

  pub in_order : InOrder
  in_order = record {
    falls = λ r s l b. fails (lt (at (sorted n sv) r) (at (sorted n sv) s))
        (λ h. let g = place_rises r s (omega arith) b
        (larger (index_at n sv s) (index_at n sv r) (sym (ap (λ (x : Float). lt x (at (sorted n sv) s)) (sorted_at r (omega arith)) ∙ ap (lt (at sv (index_at n sv r))) (sorted_at s b)) ∙ h)) in omega arith);
    ties = λ r s l b h. ties r s l b (sym (ap (λ (x : Float). eq x (at (sorted n sv) s)) (sorted_at r (omega arith)) ∙ ap (eq (at sv (index_at n sv r))) (sorted_at s b)) ∙ h);
    taken = λ r l. sorted_at r l ∙ ap (at sv) (sym (order_at (order n sv) refl r l));
    within = λ r l. order_lt (order n sv) refl r l;
    once = λ r s a b e. sym (rank_index r a) ∙ ap (place_in n sv) (sym (order_at (order n sv) refl r a) ∙ e ∙ order_at (order n sv) refl s b) ∙ rank_index s b;
    all = λ i l. (place_in n sv i, rank_lt i l, order_at (order n sv) refl (place_in n sv i) (rank_lt i l) ∙ index_rank i l);
  }
    where
      ties : (r s : ℕ) → r < s → s < n → eq (at sv (index_at n sv r)) (at sv (index_at n sv s)) ≡ true → get_or (order n sv) r 0 < get_or (order n sv) s 0
      ties r s l b h =
          let a : r < n = omega arith in
          let x = order_at (order n sv) refl r a in
          let y = order_at (order n sv) refl s b in
          below_or_not (index_at n sv r) (index_at n sv s) (λ g. omega arith)
          (λ g. absurd (not_back r s l b a g h))
        where
          not_back : (r s : ℕ) → r < s → s < n → r < n → index_at n sv s ≤ index_at n sv r → eq (at sv (index_at n sv r)) (at sv (index_at n sv s)) ≡ true → ⊥
          not_back r s l b a g h =
              below_or_not (index_at n sv s) (index_at n sv r)
              (λ k. let z = place_rises r s a b
              (earlier (index_at n sv s) (index_at n sv r) (eq_swap (at sv (index_at n sv r)) (at sv (index_at n sv s)) (good (index_at n sv r) (index_lt r a)) (good (index_at n sv s) (index_lt s b)) h) k) in omega arith)
              (λ k. let e : index_at n sv r ≡ index_at n sv s = omega arith in let z = sym (rank_index r a) ∙ ap (place_in n sv) e ∙ rank_index s b in omega arith)

  -- ---- what is dropped where r of them are kept
  sorted_long : length (sorted n sv) ≡ n
  unfolding sorted
  sorted_long = length_tab n (λ (s : ℕ). at sv (index_at n sv s))

  dropped_at : (r : ℕ) → r < n → dropped_from r (sorted n sv) ≡ at (sorted n sv) r
  unfolding dropped_from
  dropped_at r l = let m = sorted_long in get_d_any (sorted n sv) r zero64 nan (omega arith)

  dropped_none : (r : ℕ) → n ≤ r → dropped_from r (sorted n sv) ≡ zero64
  unfolding dropped_from
  dropped_none r l = let m = sorted_long in get_or-eq_default (sorted n sv) zero64 (omega arith)

  -- for readers: it is one of those that are not kept, none of them is larger, and +0 stands where there are none
  pub record Dropped (r : ℕ) : Type 0 where
    pub one : r < n → dropped_from r (sorted n sv) ≡ at (sorted n sv) r
    pub largest : (s : ℕ) → r ≤ s → s < n → lt (dropped_from r (sorted n sv)) (at (sorted n sv) s) ≡ false
    pub none : n ≤ r → dropped_from r (sorted n sv) ≡ zero64

  pub dropped : (r : ℕ) → Dropped r
  dropped r = record { one = dropped_at r; largest = λ s a b. ap (λ (x : Float). lt x (at (sorted n sv) s)) (dropped_at r (omega arith)) ∙ not_above r s a b; none = dropped_none r }
    where
      own : (s : ℕ) → s < n → lt (at (sorted n sv) s) (at (sorted n sv) s) ≡ false
      own s b = fails _ (λ h. let e = sorted_at s b in lt_not_self (at sv (index_at n sv s)) (good (index_at n sv s) (index_lt s b)) (rw (← e) h))

      not_above : (r s : ℕ) → r ≤ s → s < n → lt (at (sorted n sv) r) (at (sorted n sv) s) ≡ false
      not_above r s a b = below_or_not r s (λ l. in_order.falls r s l b) (λ l. let e : r ≡ s = omega arith in ap (λ (x : ℕ). lt (at (sorted n sv) x) (at (sorted n sv) s)) e ∙ own s b)

  pub dropped_finite : (r : ℕ) → finite (dropped_from r (sorted n sv)) ≡ true
  unfolding of_bits
  dropped_finite r = below_or_not r n (λ l. ap finite (dropped_at r l ∙ sorted_at r l) ∙ good (index_at n sv r) (index_lt r l)) (λ l. ap finite (dropped_none r l))

-- ---- how many are kept
module _ (eps : Float) (n : ℕ) (ss : List Float) (least : Float) (k : ℕ) (e : least ≡ threshold_of eps (at ss 0)) (d : k ≡ count (λ (j : ℕ). lt least (at ss j)) n) where
  kept_is : max 1 k ≡ kept_rank eps n ss
  unfolding kept_rank
  kept_is = rw (d, e)

  pub kept_one : k < 1 → 1 ≡ kept_rank eps n ss
  kept_one h = let z : 1 ≡ max 1 k = omega arith in z ∙ kept_is

  pub kept_more : 1 ≤ k → k ≡ kept_rank eps n ss
  kept_more h = let z : k ≡ max 1 k = omega arith in z ∙ kept_is

pub rank_least : (eps : Float) (n : ℕ) (ss : List Float) → 1 ≤ kept_rank eps n ss
unfolding kept_rank
rank_least eps n ss = omega arith

pub rank_most : (eps : Float) (n : ℕ) (ss : List Float) → 1 ≤ n → kept_rank eps n ss ≤ n
unfolding kept_rank
rank_most eps n ss one = let m = count_most (λ (r : ℕ). lt (threshold_of eps (at ss 0)) (at ss r)) n in omega arith

-- ---- what is dropped was not to be kept: it does not lie above the threshold
-- what lies above t lies below nothing that doesn't; t may be infinite, or no number
above_too : (t x y : Float) → finite x ≡ true → finite y ≡ true → lt t x ≡ true → lt y x ≡ false → lt t y ≡ true
unfolding lt
above_too nan x y f g h e = absurd (true≢false (sym h))
above_too (inf false) nan y f g h e = absurd (true≢false (sym f))
above_too (inf false) (inf s) y f g h e = absurd (true≢false (sym f))
above_too (inf false) (fin s m p) y f g h e = absurd (true≢false (sym h))
above_too (inf true) x nan f g h e = absurd (true≢false (sym g))
above_too (inf true) x (inf s) f g h e = absurd (true≢false (sym g))
above_too (inf true) x (fin s m p) f g h e = refl
above_too (fin s m p) x y f g h e =
    let t = fin s m p in
    ⊎_elim (λ k. lt_then_lt t x y refl f g h k) (λ k. ⊎_elim (λ q. lt_then_eq t x y refl f g h q) (λ q. absurd (true≢false (sym q ∙ e))) k) (lt_or_eq x y f g)

module _ (n : ℕ) (sv : List Float) (long : length sv ≡ n) (fine : all_finite sv ≡ true) (eps : Float) where
  abbrev ss : List Float
  ss = sorted n sv

  abbrev kept : ℕ
  kept = kept_rank eps n (sorted n sv)

  passes : ℕ → Bool
  passes j = lt (threshold_of eps (at ss 0)) (at ss j)

  good_at : (j : ℕ) → j < n → finite (at ss j) ≡ true
  good_at j l = ap finite (sym ((dropped n sv long fine j).one l)) ∙ dropped_finite n sv long fine j

  -- if it did, so would all before it, and they would be more than are kept
  too_many : kept < n → passes kept ≡ true → ⊥
  unfolding passes kept_rank
  too_many l h =
      let all : count passes (suc kept) ≡ suc kept = count_all passes (suc kept) (λ j b. before_it j b) in
      let some : count passes (suc kept) ≤ count passes n = rw (count_below passes (suc kept) n l) (count_within (λ (k : ℕ). passes k && ltb k (suc kept)) passes n (λ i a e. (both (passes i) (ltb i (suc kept)) e).0)) in
      omega arith
    where
      before_it : (j : ℕ) → j < suc kept → passes j ≡ true
      before_it j b = below_or_not j kept
          (λ a. above_too (threshold_of eps (at ss 0)) (at ss kept) (at ss j) (good_at kept l) (good_at j (omega arith)) h ((in_order n sv long fine).falls j kept a l))
          (λ a. let e : j ≡ kept = omega arith in ap passes e ∙ h)

  pub not_kept : kept < n → lt (threshold_of eps (at ss 0)) (dropped_from kept ss) ≡ false
  unfolding passes
  not_kept l = ap (lt (threshold_of eps (at ss 0))) ((dropped n sv long fine kept).one l) ∙ fails (passes kept) (λ h. too_many l h)
