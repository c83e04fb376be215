-- The first place at which a test holds, or fails; and the check of each place by it. Assumes nothing.
use Rattle.std.specs.Prelude.{Ok, Err}
use mathlib.Core.Path.{◌≡◌, refl, sym, ap, ◌∙◌}
use Prim.Native.Nat.{ℕ, zero, suc, ◌+◌, ◌-◌, ◌≤◌, ◌<◌}
use native.Mathlib.Nat.{zero-add, eq-or-lt_of_le, le_refl}
use native.Mathlib.Omega.{arith}
use mathlib.Core.Bool.{Bool, true, false, cond, not, ◌&&◌, true≢false}
use mathlib.Core.Logic.{⊎_elim}
use Rattle.answers.specs.declared.Refusal.{Refusal}
use Rattle.answers.specs.Outcome.{Check, ◌then◌, demand_each}
use Rattle.answers.proofs.Checks.{demand_no, each_yes, each_from}
use Rattle.lists.specs.Lists.{first_from, first, first_not}
use Rattle.lists.proofs.Tests.{not_no, not_yes, and_yes}
use Rattle.lists.proofs.Firsts.{Clear, clear_none, clear_more, first_here, first_done}

-- ---- what the first place at which p holds is
module _ (p : ℕ → Bool) where
  is_next : (b : Bool) (lo d i : ℕ) → p lo ≡ b → lo ≤ i → i ≤ lo + suc d → ((j : ℕ) → lo ≤ j → j < i → p j ≡ false) → (i < lo + suc d → p i ≡ true)
      → (suc lo ≤ i → i ≡ first_from p (suc lo) d) → i ≡ cond b lo (first_from p (suc lo) d)
  is_next true lo d i e ge le before here more = ⊎_elim (λ q. sym q) (λ l. absurd (true≢false (sym e ∙ before lo (le_refl lo) l))) (eq-or-lt_of_le ge)
  is_next false lo d i e ge le before here more = ⊎_elim (λ q. absurd (true≢false (sym (here (omega arith)) ∙ ap p (sym q) ∙ e))) more (eq-or-lt_of_le ge)

  from_is : (lo d i : ℕ) → lo ≤ i → i ≤ lo + d → ((j : ℕ) → lo ≤ j → j < i → p j ≡ false) → (i < lo + d → p i ≡ true) → i ≡ first_from p lo d
  from_is lo zero i ge le before here = omega arith
  from_is lo (suc d) i ge le before here =
      is_next (p lo) lo d i refl ge le before here (λ l. from_is (suc lo) d i l (omega arith) (λ j a b. before j (omega arith) b) (λ m. here (omega arith)))

  -- at a place from lo on that is the first of d
  record FirstFrom (lo d i : ℕ) : Type 0 where
    most : i ≤ lo + d
    before : (j : ℕ) → lo ≤ j → j < i → p j ≡ false
    here : i < lo + d → p i ≡ true

  next : (b : Bool) (lo d : ℕ) → p lo ≡ b → FirstFrom (suc lo) d (first_from p (suc lo) d) → FirstFrom lo (suc d) (cond b lo (first_from p (suc lo) d))
  next true lo d e f = record { most = omega arith; before = λ j a b. absurd (omega arith); here = λ m. e }
  next false lo d e f = record { most = omega (arith, f.most); before = λ j a b. ⊎_elim (λ q. ap p (sym q) ∙ e) (λ l. f.before j l b) (eq-or-lt_of_le a); here = λ m. f.here (omega arith) }

  from_first : (lo d : ℕ) → FirstFrom lo d (first_from p lo d)
  from_first lo zero = record { most = omega arith; before = λ j a b. absurd (omega arith); here = λ m. absurd (omega arith) }
  from_first lo (suc d) = next (p lo) lo d refl (from_first (suc lo) d)

  module _ (n : ℕ) where
    pub first_is : (i : ℕ) → i ≤ n → ((j : ℕ) → j < i → p j ≡ false) → (i < n → p i ≡ true) → i ≡ first p n
    unfolding first
    first_is i le before here = from_is 0 n i (omega arith) (omega arith) (λ j a b. before j b) (λ m. here (omega arith))

    pub first_most : first p n ≤ n
    unfolding first
    first_most = omega (arith, (from_first 0 n).most)

    pub first_before : (j : ℕ) → j < first p n → p j ≡ false
    unfolding first
    first_before j l = (from_first 0 n).before j (omega arith) l

    pub first_holds : first p n < n → p (first p n) ≡ true
    unfolding first
    first_holds l = (from_first 0 n).here (omega arith)

-- ---- the loop that looks for the first place at which p fails, r being what a test of place i answers
module _ (p : ℕ → Bool) (n : ℕ) where
  abbrev fails : ℕ → Bool
  fails i = not (p i)

  -- all below i passed
  abbrev pub Passed : ℕ → Type 0
  Passed i = Clear fails n i

  pub passed_none : Passed 0
  passed_none = clear_none fails n

  pub passed_more : (i : ℕ) (r : Bool) → Passed i → i < n → r ≡ p i → not r ≡ false → Passed (i + 1)
  passed_more i r e l d h = clear_more fails n i false e l (sym (ap not (sym d) ∙ h)) refl

  pub fails_at : (i : ℕ) (r : Bool) → Passed i → i < n → r ≡ p i → not r ≡ true → i ≡ first_not p n
  unfolding first_not
  fails_at i r e l d h = first_here fails n i true e l (sym (ap not (sym d) ∙ h)) refl

  pub passed_all : (i : ℕ) → Passed i → i ≤ n → n ≤ i → i ≡ first_not p n
  unfolding first_not
  passed_all i e h l = first_done fails n i e h l

pub ruleset passing = (passed_none, passed_more, fails_at, passed_all)

-- ---- the first place at which p fails
module _ (p : ℕ → Bool) (n i : ℕ) (e : i ≡ first_not p n) where
  pub fails_most : i ≤ n
  unfolding first_not
  fails_most = rw e (first_most (fails p n) n)

  pub fails_before : (j : ℕ) → j < i → p j ≡ true
  unfolding first_not
  fails_before j l = not_no (p j) (first_before (fails p n) n j (rw e at l))

  pub fails_here : i < n → p i ≡ false
  unfolding first_not
  fails_here l = rw e (not_yes (p (first (fails p n) n)) (first_holds (fails p n) n (rw e at l)))

  -- the check of each place is refused at the first that fails, and passes where there is none
  module _ (r : ℕ → Refusal) where
    pub each_stops : i < n → demand_each r p n 0 ≡ Err (r i)
    unfolding demand_each
    each_stops l =
        let s : n ≡ i + suc (n - suc i) = omega arith in
        ap (λ (m : ℕ). demand_each r p m 0) s
        ∙ each_from r p i (suc (n - suc i)) 0 (λ j a b. fails_before j (omega arith))
        ∙ ap (λ (k : ℕ). demand_each r p (suc (n - suc i)) k) (zero-add i)
        ∙ ap (λ (c : Check). c then demand_each r p (n - suc i) (suc i)) (demand_no (p i) (r i) (fails_here l))

    pub each_passes : n ≤ i → demand_each r p n 0 ≡ Ok tt
    each_passes l = each_yes r p n 0 (λ j a b. fails_before j (omega arith))

-- the same place for a test that says the same
pub fails_same : (p q : ℕ → Bool) (n i : ℕ) → ((k : ℕ) → k < n → p k ≡ q k) → i ≡ first_not p n → i ≡ first_not q n
unfolding first_not
fails_same p q n i h e =
    first_is (fails q n) n i (fails_most p n i e) (λ k l. ap not (sym (h k (omega (arith, fails_most p n i e))) ∙ fails_before p n i e k l)) (λ l. ap not (sym (h i l) ∙ fails_here p n i e l))

-- ---- two tests at once: the earlier of the two first places at which one fails
module _ (p q : ℕ → Bool) (n i j : ℕ) (e : i ≡ first_not p n) (f : j ≡ first_not q n) where
  passed : (k : ℕ) → p k ≡ true → q k ≡ true → not (p k && q k) ≡ false
  passed k a b = ap not (and_yes (p k) (q k) a b)

  pub both_left : i ≤ j → i ≡ first_not (λ (k : ℕ). p k && q k) n
  unfolding first_not
  both_left l =
      first_is (λ (k : ℕ). not (p k && q k)) n i (fails_most p n i e)
      (λ k lt. passed k (fails_before p n i e k lt) (fails_before q n j f k (omega arith)))
      (λ lt. ap (λ (b : Bool). not (b && q i)) (fails_here p n i e lt))

  pub both_right : j ≤ i → j ≡ first_not (λ (k : ℕ). p k && q k) n
  unfolding first_not
  both_right l =
      first_is (λ (k : ℕ). not (p k && q k)) n j (fails_most q n j f)
      (λ k lt. passed k (fails_before p n i e k (omega arith)) (fails_before q n j f k lt))
      (λ lt. ap (λ (b : Bool). not (p j && b)) (fails_here q n j f lt) ∙ ap not (and_false (p j)))
    where
      and_false : (b : Bool) → b && false ≡ false
      and_false true = refl
      and_false false = refl
