-- Checks by what code finds: a length, a first place that fails. Assumes nothing.
use mathlib.Core.Path.{◌≡◌, refl, sym, ◌∙◌}
use Prim.Native.Nat.{ℕ, ◌≤◌, ◌<◌}
use native.Mathlib.Omega.{arith}
use mathlib.Core.Bool.{Bool, true, false, not, ◌&&◌}
use lib.Dec.{eqb}
use Rattle.answers.specs.declared.Refusal.{Refusal}
use Rattle.std.specs.Prelude.{Ok, Err}
use Rattle.answers.specs.Outcome.{Check, ◌then◌, demand, demand_each}
use Rattle.answers.proofs.Checks.{demand_yes, demand_no, demand_is, then_is, then_stops, then_passes}
use Rattle.lists.specs.Lists.{first_not}
use Rattle.lists.proofs.Tests.{not_no, not_yes, eqb_yes, eqb_no, eqb_is}
use Rattle.lists.proofs.Demands.{each_stops, each_passes, fails_most, both_left, both_right}

-- b is what code found of a test t
module _ (b t : Bool) (r : Refusal) (e : b ≡ t) where
  pub test_wrong : not b ≡ true → Err r ≡ demand t r
  test_wrong h = (sym (demand_no t r (sym e ∙ not_yes b h)))

  pub test_right : not b ≡ false → Ok tt ≡ demand t r
  test_right h = (sym (demand_yes t r (sym e ∙ not_no b h)))

pub ruleset tested = (test_wrong, test_right)

module _ (a b : ℕ) (r : Refusal) where
  pub length_wrong : (a ≡ b → ⊥) → Err r ≡ demand (eqb a b) r
  length_wrong h = (sym (demand_no (eqb a b) r (eqb_no a b h)))

  pub length_right : a ≡ b → Ok tt ≡ demand (eqb a b) r
  length_right h = (sym (demand_yes (eqb a b) r (eqb_yes a b h)))

module _ (p : ℕ → Bool) (n i : ℕ) (e : i ≡ first_not p n) (r : ℕ → Refusal) where
  pub place_wrong : i < n → Err (r i) ≡ demand_each r p n 0
  place_wrong l = (sym (each_stops p n i e r l))

  pub places_right : n ≤ i → Ok tt ≡ demand_each r p n 0
  places_right l = (sym (each_passes p n i e r l))

-- ---- two lengths: a is to be x, b is to be y; m and n are what code took for x and y
module _ (a x b y : ℕ) (r q : Refusal) (m : ℕ) (e : m ≡ x) where
  abbrev lengths : Check
  lengths = demand (eqb a x) r then demand (eqb b y) q

  pub first_wrong : (a ≡ m → ⊥) → Err r ≡ lengths
  first_wrong h = then_stops (demand (eqb a x) r) (demand (eqb b y) q) (Err r) (length_wrong a x r (λ k. h (k ∙ sym e))) r refl

  module _ (h : a ≡ m) (n : ℕ) (f : n ≡ y) where
    pub second_wrong : (b ≡ n → ⊥) → Err q ≡ lengths
    second_wrong g = then_passes (demand (eqb a x) r) (demand (eqb b y) q) (Ok tt) (length_right a x r (h ∙ e)) (Err q) refl (length_wrong b y q (λ k. g (k ∙ sym f)))

    pub lengths_right : b ≡ n → Ok tt ≡ lengths
    lengths_right g = then_passes (demand (eqb a x) r) (demand (eqb b y) q) (Ok tt) (length_right a x r (h ∙ e)) (Ok tt) refl (length_right b y q (g ∙ f))

pub ruleset lengths-asked = (first_wrong, second_wrong, lengths_right)

-- what two lengths that passed say
pub lengths_say : (a x b y : ℕ) (r q : Refusal) → demand (eqb a x) r then demand (eqb b y) q ≡ Ok tt → (a ≡ x) × (b ≡ y)
lengths_say a x b y r q e = let w = then_is (demand (eqb a x) r) (demand (eqb b y) q) tt e in (eqb_is a x (demand_is _ r w.0), eqb_is b y (demand_is _ q w.1))

-- ---- two tests of each place: i is the first that fails p, j the first that fails q
module _ (p q : ℕ → Bool) (n i j : ℕ) (e : i ≡ first_not p n) (f : j ≡ first_not q n) (r : ℕ → Refusal) where
  abbrev both : Check
  both = demand_each r (λ (k : ℕ). p k && q k) n 0

  pub left_wrong : i ≤ j → i < n → Err (r i) ≡ both
  left_wrong h l = place_wrong (λ (k : ℕ). p k && q k) n i (both_left p q n i j e f h) r l

  pub neither_wrong : i ≤ j → n ≤ i → Ok tt ≡ both
  neither_wrong h l = places_right (λ (k : ℕ). p k && q k) n i (both_left p q n i j e f h) r l

  pub right_wrong : j < i → Err (r j) ≡ both
  right_wrong h = place_wrong (λ (k : ℕ). p k && q k) n j (both_right p q n i j e f (omega arith)) r (omega (arith, fails_most p n i e))

pub ruleset tests-asked = (left_wrong, neither_wrong, right_wrong)

pub ruleset asked = (then_stops, then_passes, length_wrong, length_right, place_wrong, places_right)
