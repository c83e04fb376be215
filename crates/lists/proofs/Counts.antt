-- Laws of `count`, and of `first` where there is one. Assumes nothing.
use mathlib.Core.Path.{◌≡◌, refl, sym, ap, ◌∙◌}
use Prim.Native.Nat.{ℕ, zero, suc, ◌+◌, ◌≤◌, ◌<◌}
use native.Mathlib.Nat.{le_refl, add-zero, not-suc-le-zero}
use native.Mathlib.Numerals.{add-one}
use native.Mathlib.Omega.{arith}
use mathlib.Core.Bool.{Bool, true, false, cond, ◌&&◌, ◌||◌, true≢false}
use mathlib.Core.Logic.{◌⊎◌, inl, inr}
use lib.Dec.{ltb}
use Rattle.lists.specs.Lists.{count, first, first_from}
use Rattle.lists.proofs.Tests.{ltb_yes, ltb_no, fails, below_or_not}

-- what one test adds
one : Bool → ℕ
one b = cond b 1 0

one_most : (b : Bool) → one b ≤ 1
unfolding one
one_most true = omega arith
one_most false = omega arith

one_within : (a b : Bool) → (a ≡ true → b ≡ true) → one a ≤ one b
unfolding one
one_within true true h = omega arith
one_within true false h = absurd (true≢false (sym (h refl)))
one_within false b h = omega arith

one_either : (a b : Bool) → (a ≡ true → b ≡ true → ⊥) → one a + one b ≡ one (a || b)
unfolding one
one_either true true h = absurd (h refl refl)
one_either true false h = refl
one_either false true h = refl
one_either false false h = refl

count_suc : (p : ℕ → Bool) (n : ℕ) → count p (suc n) ≡ count p n + one (p n)
unfolding count one
count_suc p n = refl

-- ---- for a loop: the start, a turn more, where the test is worth k, and the end
pub count_start : (p : ℕ → Bool) → 0 ≡ count p 0
unfolding count
count_start p = refl

pub count_more : (p : ℕ → Bool) (n c k : ℕ) → c ≡ count p n → k ≡ cond (p n) 1 0 → c + k ≡ count p (n + 1)
unfolding count
count_more p n c k e d = rw (add-one, ← e, ← d)

pub count_done : (p : ℕ → Bool) (i n c : ℕ) → c ≡ count p i → i ≤ n → n ≤ i → c ≡ count p n
count_done p i n c e h l = let z : i ≡ n = omega arith in e ∙ ap (count p) z

-- ---- how many
-- no more than there are
pub count_most : (p : ℕ → Bool) (n : ℕ) → count p n ≤ n
unfolding count
count_most p zero = omega arith
count_most p (suc n) = let h = count_most p n in let k = one_most (p n) in let e = count_suc p n in omega arith

pub count_same : (p q : ℕ → Bool) (n : ℕ) → ((i : ℕ) → i < n → p i ≡ q i) → count p n ≡ count q n
unfolding count
count_same p q zero h = refl
count_same p q (suc n) h = rw (count_same p q n (λ i l. h i (omega arith)), h n (le_refl (suc n)))

pub count_none : (p : ℕ → Bool) (n : ℕ) → ((i : ℕ) → i < n → p i ≡ false) → count p n ≡ 0
unfolding count
count_none p zero h = refl
count_none p (suc n) h = rw (count_none p n (λ i l. h i (omega arith)), h n (le_refl (suc n)))

pub count_all : (p : ℕ → Bool) (n : ℕ) → ((i : ℕ) → i < n → p i ≡ true) → count p n ≡ n
unfolding count
count_all p zero h = refl
count_all p (suc n) h = rw (count_all p n (λ i l. h i (omega arith)), h n (le_refl (suc n))) (add-one n)

-- of two tests that never both hold
pub count_either : (p q : ℕ → Bool) (n : ℕ) → ((i : ℕ) → i < n → p i ≡ true → q i ≡ true → ⊥) → count p n + count q n ≡ count (λ (i : ℕ). p i || q i) n
unfolding count
count_either p q zero h = refl
count_either p q (suc n) h =
    let r = count_either p q n (λ i l. h i (omega arith)) in
    let o = one_either (p n) (q n) (h n (le_refl (suc n))) in
    let a = count_suc p n in
    let b = count_suc q n in
    let c = count_suc (λ (i : ℕ). p i || q i) n in
    omega arith

-- those below i, counted among all
pub count_below : (p : ℕ → Bool) (i n : ℕ) → i ≤ n → count p i ≡ count (λ (k : ℕ). p k && ltb k i) n
unfolding count
count_below p i zero l = let z : i ≡ 0 = omega arith in rw z
count_below p i (suc n) l =
    below_or_not n i
    (λ h. let z : i ≡ suc n = omega arith in ap (count p) z ∙ count_same p (λ (k : ℕ). p k && ltb k i) (suc n) (λ k m. sym (here (p k) (ltb k i) (ltb_yes k i (omega arith)))))
    (λ h. count_below p i n h ∙ sym (rw (ltb_no n i h) (gone (p n) (count (λ (k : ℕ). p k && ltb k i) n))))
  where
    here : (a b : Bool) → b ≡ true → a && b ≡ a
    here true b e = e
    here false b e = refl

    gone : (a : Bool) (m : ℕ) → m + cond (a && false) 1 0 ≡ m
    gone true m = add-zero m
    gone false m = add-zero m

-- where one test implies another, it holds no more often; and less often where it fails and the other holds
pub count_within : (p q : ℕ → Bool) (n : ℕ) → ((i : ℕ) → i < n → p i ≡ true → q i ≡ true) → count p n ≤ count q n
unfolding count
count_within p q zero h = omega arith
count_within p q (suc n) h =
    let r = count_within p q n (λ i l. h i (omega arith)) in
    let o = one_within (p n) (q n) (h n (le_refl (suc n))) in
    let a = count_suc p n in
    let b = count_suc q n in
    omega arith

pub count_less : (p q : ℕ → Bool) (n j : ℕ) → ((i : ℕ) → i < n → p i ≡ true → q i ≡ true) → j < n → p j ≡ false → q j ≡ true → count p n < count q n
unfolding one
count_less p q zero j h l e d = absurd (not-suc-le-zero l)
count_less p q (suc n) j h l e d =
    let a = count_suc p n in
    let b = count_suc q n in
    below_or_not j n
    (λ k. let r = count_less p q n j (λ i l. h i (omega arith)) k e d in let o = one_within (p n) (q n) (h n (le_refl (suc n))) in omega arith)
    (λ k. let z : j ≡ n = omega arith in
    let r = count_within p q n (λ i l. h i (omega arith)) in
    let s : one (p n) ≡ 0 = ap one (ap p (sym z) ∙ e) in
    let t : one (q n) ≡ 1 = ap one (ap q (sym z) ∙ d) in
    omega arith)

-- a test that holds of at most one
pub count_unique : (p : ℕ → Bool) (n : ℕ) → ((i j : ℕ) → i < n → j < n → p i ≡ true → p j ≡ true → i ≡ j) → count p n ≤ 1
unfolding count one
count_unique p zero h = omega arith
count_unique p (suc n) h = go (p n) refl (count_unique p n (λ i j a b. h i j (omega arith) (omega arith)))
  where
    go : (b : Bool) → p n ≡ b → count p n ≤ 1 → count p n + cond (p n) 1 0 ≤ 1
    go true e r = let z = count_none p n (λ i l. fails (p i) (λ d. let y = h i n (omega arith) (omega arith) d e in omega arith)) in rw (z, e) (omega arith)
    go false e r = rw (e, add-zero) r

-- ---- the first, where there is one
first_from_lem : (p : ℕ → Bool) (d lo : ℕ) → ((i : ℕ) → lo ≤ i → i < lo + d → p i ≡ false) ⊎ ((first_from p lo d < lo + d) × (p (first_from p lo d) ≡ true))
first_from_lem p zero lo = inl (λ i a b. absurd (nothing i a b))
  where
    nothing : (i : ℕ) → lo ≤ i → i < lo + 0 → ⊥
    nothing i a b = omega arith
first_from_lem p (suc d) lo = go (p lo) refl (first_from_lem p d (suc lo))
  where
    rest : p lo ≡ false → ((i : ℕ) → suc lo ≤ i → i < suc lo + d → p i ≡ false) → (i : ℕ) → lo ≤ i → i < lo + suc d → p i ≡ false
    rest e h i a b = below_or_not lo i (λ l. h i l (omega arith)) (λ l. let z : i ≡ lo = omega arith in ap p z ∙ e)

    go : (b : Bool) → p lo ≡ b → ((i : ℕ) → suc lo ≤ i → i < suc lo + d → p i ≡ false) ⊎ ((first_from p (suc lo) d < suc lo + d) × (p (first_from p (suc lo) d) ≡ true))
        → ((i : ℕ) → lo ≤ i → i < lo + suc d → p i ≡ false) ⊎ ((cond (p lo) lo (first_from p (suc lo) d) < lo + suc d) × (p (cond (p lo) lo (first_from p (suc lo) d)) ≡ true))
    go true e r = inr (rw e (omega arith), rw e e)
    go false e (inl h) = inl (rest e h)
    go false e (inr h) = inr (rw e (let l = h.0 in omega arith), rw e h.1)

pub record Found (p : ℕ → Bool) (n : ℕ) : Type 0 where
  pub within : first p n < n
  pub holds : p (first p n) ≡ true

pub first_found : (p : ℕ → Bool) (n : ℕ) → 1 ≤ count p n → Found p n
unfolding first
first_found p n h = go (first_from_lem p n 0)
  where
    go : ((i : ℕ) → 0 ≤ i → i < 0 + n → p i ≡ false) ⊎ ((first_from p 0 n < 0 + n) × (p (first_from p 0 n) ≡ true)) → Found p n
    go (inl f) = let z = count_none p n (λ i l. f i (omega arith) (omega arith)) in absurd (omega arith)
    go (inr f) = let l = f.0 in record { within = omega arith; holds = f.1 }
