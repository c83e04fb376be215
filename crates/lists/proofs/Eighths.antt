-- Numbers that are finite by eight sums of every eighth of them. Assumes nothing.
use mathlib.Core.Path.{◌≡◌, refl, sym, ap, ◌∙◌}
use Prim.Native.Nat.{ℕ, zero, suc, ◌+◌, ◌*◌, ◌/◌, ◌%◌, ◌<◌, ◌≤◌}
use native.Mathlib.Nat.{not-suc-le-zero, le_of_eq}
use native.Mathlib.Numerals.{add-one}
use native.Mathlib.Omega.{arith}
use mathlib.Core.Bool.{true}
use mathlib.Core.List.{List}
use lib.ListN.{length, get_or-replicate}
use lib.Ieee.{Float, nan}
use Rattle.numbers.specs.Arithmetic.{plus, zero64}
use Rattle.numbers.specs.Finite.{finite}
use Rattle.lists.specs.Lists.{iter}
use Rattle.lists.specs.Floats.{at, zeros, sum_on, sum_to, all_finite}
use Rattle.lists.specs.Strips.{added_in}
use Rattle.lists.proofs.Floats.{finite_get_d_lem}
use Rattle.lists.proofs.Strips.{added_length, added_at}
use Rattle.lists.proofs.Sums.{plus_finite}
use Rattle.lists.proofs.Tests.{below_or_not}
use Rattle.lists.proofs.Seen.{Flag, flag_none, flag_more}

-- a finite sum has finite terms
terms : (t : ℕ → Float) (k : ℕ) → finite (sum_to k t) ≡ true → (i : ℕ) → i < k → finite (t i) ≡ true
unfolding sum_to sum_on
terms t zero h i l = absurd (not-suc-le-zero l)
terms t (suc k) h i l =
    let p = plus_finite (iter k (λ (n : ℕ) (s : Float). plus s (t n)) zero64) (t k) h in
    below_or_not i k (λ g. terms t k p.0 i g) (λ g. let z : i ≡ k = omega arith in rw z p.1)

module _ (s : List Float) (k : ℕ) where
  abbrev Sum : ℕ → Float
  Sum c = sum_to k (λ (i : ℕ). at s (i * 8 + c))

  pub settled_all : ((c : ℕ) → c < 8 → finite (Sum c) ≡ true) → (j : ℕ) → j < k * 8 → finite (at s j) ≡ true
  settled_all h j l =
      let z : j / 8 * 8 + j % 8 ≡ j = omega arith in
      rw z at (terms (λ (i : ℕ). at s (i * 8 + j % 8)) k (h (j % 8) (omega arith)) (j / 8) (omega arith))

  -- by the sums in one list
  pub eight_settled : (t : List Float) → length t ≡ 8 → ((c : ℕ) → c < 8 → at t c ≡ Sum c) → all_finite t ≡ true → (j : ℕ) → j < k * 8 → finite (at s j) ≡ true
  eight_settled t long told h = settled_all (λ c l. ap finite (sym (told c l)) ∙ finite_get_d_lem t c nan (rw long l) h)

-- ---- the list of sums, turn by turn
module _ (s : List Float) where
  abbrev pub Eighths : ℕ → List Float → Type 0
  Eighths k t = (length t ≡ 8) × ((c : ℕ) → c < 8 → at t c ≡ sum_to k (λ (i : ℕ). at s (i * 8 + c)))

  pub eighths_none : Eighths 0 (zeros 8)
  unfolding sum_to sum_on
  eighths_none = (refl, λ c l. get_or-replicate 8 c zero64 nan l)

  -- t before the turn, u after its eight additions
  pub eighths_more : (j n : ℕ) (t u : List Float) → Eighths j t → u ≡ added_in n (λ (c : ℕ). at s (j * 8 + c)) t → n ≡ 8 → Eighths (j + 1) u
  unfolding sum_to sum_on
  eighths_more j n t u h e d =
      let g = rw d at e in (
        ap length g ∙ added_length (λ (c : ℕ). at s (j * 8 + c)) t 8 ∙ h.0,
        λ c l. ap (λ (x : List Float). at x c) g ∙ added_at (λ (c : ℕ). at s (j * 8 + c)) t 8 c l (le_of_eq (sym h.0)) ∙ rw (h.1 c l, add-one),
      )

-- the flag behind them
pub flag_from : (s : List Float) (r : ℕ) → r ≤ length s → ((j : ℕ) → j < r → finite (at s j) ≡ true) → Flag s r true
flag_from s zero l h = flag_none s
flag_from s (suc r) l h =
    let z : r + 1 ≡ suc r = omega arith in
    rw (← z) (flag_more s r true true true (flag_from s r (omega arith) (λ j g. h j (omega arith))) l (sym (h r (omega arith))) refl)
