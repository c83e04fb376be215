-- Checks in a row by what code finds on its way. Assumes nothing.
use mathlib.Core.Path.{◌≡◌, refl, sym, ap, ◌∙◌}
use Prim.Native.Nat.{ℕ, ◌≤◌, ◌<◌}
use native.Mathlib.Omega.{arith}
use mathlib.Core.Bool.{Bool, true, false, not, ◌&&◌}
use lib.Dec.{eqb, ltb}
use mathlib.Core.List.{List}
use lib.Ieee.{Float}
use Rattle.answers.specs.declared.Refusal.{Refusal}
use Rattle.answers.specs.declared.Refusal.TheVariants.{Number, Setting}
use Rattle.std.specs.Prelude.{Ok, Err, min}
use Rattle.answers.specs.Outcome.{Check, ◌then◌, demand, demand_each}
use Rattle.answers.proofs.Checks.{demand_yes, demand_no}
use Rattle.lists.specs.Lists.{pick, first_not}
use Rattle.lists.specs.Floats.{all_finite}
use Rattle.shape.specs.declared.Shape.{Shape}
use Rattle.shape.specs.Cores.{core_at, points_at}
use Rattle.shape.proofs.Shaped.{fits_sizes}
use Rattle.product.proofs.Checks.{refuses, passes}
use Rattle.stepform.specs.declared.Axis.{Axis}
use Rattle.stepform.specs.Axes.{axis_finite, axis_at}
use Rattle.cutform.specs.Call.{core_finite}
use Rattle.runform.specs.Checks.{made_finite}
use Rattle.lists.proofs.Tests.{below_or_not, ltb_yes, ltb_no, eqb_yes, eqb_no}
use Rattle.lists.proofs.Demands.{both_left, both_right, first_is, fails_most}
use Rattle.lists.proofs.Asked.{length_wrong, length_right, test_wrong, test_right, place_wrong, places_right}

module _ (o : Check) (r : Refusal) where
  -- a length a that is to be x; m is what code took for x
  module _ (a x m : ℕ) (e : m ≡ x) where
    pub size_stops : (a ≡ m → ⊥) → Err r ≡ (demand (eqb a x) r then o)
    size_stops h = refuses (demand (eqb a x) r) o r (length_wrong a x r (λ k. h (k ∙ sym e)))

    pub size_passes : a ≡ m → (w : Check) → w ≡ o → w ≡ (demand (eqb a x) r then o)
    size_passes h w g = passes (demand (eqb a x) r) o w (length_right a x r (h ∙ e)) g

  module _ (z d : ℕ) where
    pub below_stops : d ≤ z → Err r ≡ (demand (ltb z d) r then o)
    below_stops h = refuses (demand (ltb z d) r) o r (sym (demand_no (ltb z d) r (ltb_no z d h)))

    pub below_passes : z < d → (w : Check) → w ≡ o → w ≡ (demand (ltb z d) r then o)
    below_passes h w g = passes (demand (ltb z d) r) o w (sym (demand_yes (ltb z d) r (ltb_yes z d h))) g

module _ (r : Refusal) (a x m : ℕ) (e : m ≡ x) where
  pub size_wrong : (a ≡ m → ⊥) → Err r ≡ demand (eqb a x) r
  size_wrong h = length_wrong a x r (λ k. h (k ∙ sym e))

  pub size_right : a ≡ m → Ok tt ≡ demand (eqb a x) r
  size_right h = length_right a x r (h ∙ e)

-- nothing is left to ask
pub all_asked : ◌≡◌ {A = Check} (Ok tt) (Ok tt)
all_asked = refl

pub ruleset sized = (all_asked, size_stops, size_passes, below_stops, below_passes, size_wrong, size_right, refuses, passes, fits_sizes)

-- the lesser of two first places
pub least_fails : (p q : ℕ → Bool) (n i j : ℕ) → i ≡ first_not p n → j ≡ first_not q n → min i j ≡ first_not (λ (k : ℕ). p k && q k) n
least_fails p q n i j e f =
    below_or_not j i
    (λ l. let m : min i j ≡ j = omega arith in m ∙ both_right p q n i j e f (omega arith))
    (λ l. let m : min i j ≡ i = omega arith in m ∙ both_left p q n i j e f l)

-- a part that passes, or fails at z
module _ (z d : ℕ) (lt : z < d) where
  pub part_passes_lem : (b : Bool) → b ≡ true → d ≡ first_not (λ (k : ℕ). pick (eqb k z) b true) d
  unfolding first_not pick
  part_passes_lem b e = first_is (λ (k : ℕ). not (pick (eqb k z) b true)) d d (omega arith) (λ j l. ap not (ap (λ (x : Bool). pick (eqb j z) x true) e ∙ go (eqb j z))) (λ l. let n : ⊥ = omega arith in absurd n)
    where
      go : (x : Bool) → pick x true true ≡ true
      go true = refl
      go false = refl

  part_fails_lem : (b : Bool) → b ≡ false → z ≡ first_not (λ (k : ℕ). pick (eqb k z) b true) d
  unfolding first_not pick
  part_fails_lem b e =
      first_is (λ (k : ℕ). not (pick (eqb k z) b true)) d z (omega arith)
      (λ j l. ap (λ (x : Bool). not (pick x b true)) (eqb_no j z (λ q. let n : ⊥ = omega arith in n)))
      (λ l. ap (λ (x : Bool). not (pick x b true)) (eqb_yes z z refl) ∙ ap not e)

  -- i is the first place that fails p
  module _ (p : ℕ → Bool) (i : ℕ) (f : i ≡ first_not p d) (b : Bool) where
    pub part_passes : b ≡ true → i ≡ first_not (λ (k : ℕ). p k && pick (eqb k z) b true) d
    part_passes e =
        let m : i ≡ min i d = omega (arith, fails_most p d i f) in
        m ∙ least_fails p (λ (k : ℕ). pick (eqb k z) b true) d i d f (part_passes_lem b e)

    pub part_fails : b ≡ false → min i z ≡ first_not (λ (k : ℕ). p k && pick (eqb k z) b true) d
    part_fails e = least_fails p (λ (k : ℕ). pick (eqb k z) b true) d i z f (part_fails_lem b e)

-- 6 and 7
module _ (lone mild : Bool) (number setting d : ℕ) (p q : ℕ → Bool) (e : number ≡ first_not p d) (f : setting ≡ first_not q d) where
  abbrev settings : Check
  settings = demand mild (Setting 0) then demand_each Setting q d 0

  abbrev all : Check
  all = demand lone (Number 0) then demand_each Number p d 0 then settings

  pub lone_wrong : not lone ≡ true → Err (Number 0) ≡ all
  lone_wrong h = refuses (demand lone (Number 0)) (demand_each Number p d 0 then settings) (Number 0) (test_wrong lone lone (Number 0) refl h)

  module _ (h : not lone ≡ false) where
    past : (w : Check) → w ≡ (demand_each Number p d 0 then settings) → w ≡ all
    past w g = passes (demand lone (Number 0)) (demand_each Number p d 0 then settings) w (test_right lone lone (Number 0) refl h) g

    pub number_wrong : number < d → Err (Number number) ≡ all
    number_wrong l = past (Err (Number number)) (refuses (demand_each Number p d 0) settings (Number number) (place_wrong p d number e Number l))

    module _ (l : d ≤ number) where
      later : (w : Check) → w ≡ settings → w ≡ all
      later w g = past w (passes (demand_each Number p d 0) settings w (places_right p d number e Number l) g)

      pub mild_wrong : not mild ≡ true → Err (Setting 0) ≡ all
      mild_wrong i = later (Err (Setting 0)) (refuses (demand mild (Setting 0)) (demand_each Setting q d 0) (Setting 0) (test_wrong mild mild (Setting 0) refl i))

      module _ (i : not mild ≡ false) where
        last : (w : Check) → w ≡ demand_each Setting q d 0 → w ≡ all
        last w g = later w (passes (demand mild (Setting 0)) (demand_each Setting q d 0) w (test_right mild mild (Setting 0) refl i) g)

        pub setting_wrong : setting < d → Err (Setting setting) ≡ all
        setting_wrong m = last (Err (Setting setting)) (place_wrong q d setting f Setting m)

        pub all_right : d ≤ setting → Ok tt ≡ all
        all_right m = last (Ok tt) (places_right q d setting f Setting m)

pub ruleset numbers_asked = (lone_wrong, number_wrong, mild_wrong, setting_wrong, all_right)

-- ---- the first zone with a number that isn't finite: i, j and l are the first of each kind
module _ (s : Shape) (i j l : ℕ) where
  pub made_first : (xs : List Axis) (source weights : List Float)
      → i ≡ first_not (λ (k : ℕ). all_finite (core_at s source k).entries) s.d → j ≡ first_not (λ (k : ℕ). axis_finite (axis_at xs k)) s.d
      → l ≡ first_not (λ (k : ℕ). all_finite (points_at s weights k)) s.d
      → min i (min j l) ≡ first_not (made_finite s xs source weights) s.d
  unfolding made_finite core_finite
  made_first xs source weights a b c =
      least_fails (λ (k : ℕ). all_finite (core_at s source k).entries) (λ (k : ℕ). axis_finite (axis_at xs k) && all_finite (points_at s weights k)) s.d i (min j l) a
      (least_fails (λ (k : ℕ). axis_finite (axis_at xs k)) (λ (k : ℕ). all_finite (points_at s weights k)) s.d j l b c)

-- two tests of one bond, by what code finds
pub both_found : (a b p q : Bool) → a ≡ p → b ≡ q → (a && b) ≡ (p && q)
both_found a b p q e f = ap (λ (x : Bool). x && b) e ∙ ap (λ (x : Bool). p && x) f
