-- The verdict on a shape: one law for each return of code that looks for the first place that fails, as a kept run's does, which asks one thing more of each bond; and demand by demand, as a chain's check asks. Assumes nothing.
use mathlib.Core.Path.{◌≡◌, refl, sym, ap, ◌∙◌}
use Prim.Native.Nat.{ℕ, ◌≤◌, ◌<◌}
use mathlib.Core.Bool.{Bool, true, false, not, ◌&&◌}
use lib.Dec.{leb, eqb}
use Rattle.answers.specs.declared.Refusal.{Refusal}
use Rattle.answers.specs.declared.Refusal.TheVariants.{Axes, Size, Ranks}
use Rattle.std.specs.Prelude.{Ok, Err}
use Rattle.answers.specs.Outcome.{Answer, Check, ◌then◌, demand, demand_each}
use Rattle.answers.proofs.Checks.{demand_yes, demand_no, demand_is, then_skip, each_same}
use Rattle.lists.specs.Lists.{first_not}
use Rattle.lists.proofs.Tests.{both, not_no, not_yes, leb_is, eqb_yes, eqb_no}
use Rattle.lists.proofs.Demands.{each_stops, each_passes}
use Rattle.shape.specs.declared.Shape.{Shape}
use Rattle.shape.specs.Limits.{most_axes, within}
use Rattle.shape.specs.Shapes.{left_of, size_ok, bond_ok, shape_ok, chain_ok}

-- what a test of `within` says
pub within_most : (most x : ℕ) (b : Bool) → b ≡ within most x → not b ≡ false → x ≤ most
within_most most x b e h = leb_is x most (both (leb 1 x) (leb x most) (sym e ∙ not_no b h)).1

then_stop : {A : Type 0} (c : Check) (o : Answer A) (r : Refusal) → c ≡ Err r → c then o ≡ Err r
then_stop c o r e = ap (λ (x : Check). x then o) e

module _ (s : Shape) (kept : ℕ → Bool) where
  abbrev right : ℕ → Bool
  right k = bond_ok s k && kept k

  abbrev bonds : Check
  bonds = demand_each Ranks right s.d 0

  abbrev ends : Check
  ends = demand (eqb (left_of s 0) 1) (Ranks 0) then bonds

  abbrev sizes : Check
  sizes = demand_each Size (size_ok s) s.d 0 then ends

  -- b: whether d is within its limits; i: the first core with a size that isn't; j: the first whose bond doesn't hold
  module _ (b : Bool) (e : b ≡ within most_axes s.d) where
    pub axes_refused : not b ≡ true → Err Axes ≡ shape_ok s kept
    unfolding shape_ok
    axes_refused h = (sym (then_stop (demand (within most_axes s.d) Axes) sizes Axes (demand_no _ Axes (sym e ∙ not_yes b h))))

    module _ (h : not b ≡ false) where
      past_axes : shape_ok s kept ≡ sizes
      unfolding shape_ok
      past_axes = then_skip (demand (within most_axes s.d) Axes) sizes sizes (demand_yes _ Axes (sym e ∙ not_no b h)) refl

      module _ (i : ℕ) (f : i ≡ first_not (size_ok s) s.d) where
        pub size_refused : i < s.d → Err (Size i) ≡ shape_ok s kept
        size_refused l = (sym (past_axes ∙ then_stop (demand_each Size (size_ok s) s.d 0) ends (Size i) (each_stops (size_ok s) s.d i f Size l)))

        module _ (l : s.d ≤ i) where
          past_sizes : shape_ok s kept ≡ ends
          past_sizes = past_axes ∙ then_skip (demand_each Size (size_ok s) s.d 0) ends ends (each_passes (size_ok s) s.d i f Size l) refl

          pub end_refused : (left_of s 0 ≡ 1 → ⊥) → Err (Ranks 0) ≡ shape_ok s kept
          end_refused n = (sym (past_sizes ∙ then_stop (demand (eqb (left_of s 0) 1) (Ranks 0)) bonds (Ranks 0) (demand_no _ (Ranks 0) (eqb_no (left_of s 0) 1 n))))

          module _ (o : left_of s 0 ≡ 1) (j : ℕ) (g : j ≡ first_not right s.d) where
            past_end : shape_ok s kept ≡ bonds
            past_end = past_sizes ∙ then_skip (demand (eqb (left_of s 0) 1) (Ranks 0)) bonds bonds (demand_yes _ (Ranks 0) (eqb_yes (left_of s 0) 1 o)) refl

            pub bond_refused : j < s.d → Err (Ranks j) ≡ shape_ok s kept
            bond_refused m = (sym (past_end ∙ each_stops right s.d j g Ranks m))

            pub shape_fits : s.d ≤ j → Ok tt ≡ shape_ok s kept
            shape_fits m = (sym (past_end ∙ each_passes right s.d j g Ranks m))

pub ruleset verdicts = (within_most, axes_refused, size_refused, end_refused, bond_refused, shape_fits)

-- ---- a chain's check, demand by demand, which asks nothing more of its bonds
and_true : (b : Bool) → b && true ≡ b
and_true true = refl
and_true false = refl

module _ (s : Shape) (b : Bool) (e : b ≡ within most_axes s.d) (u : Unit {0}) (p : Ok u ≡ demand b Axes) where
  axes_within : within most_axes s.d ≡ true
  axes_within = sym e ∙ demand_is b Axes (sym p)

  pub axes_most : s.d ≤ most_axes
  axes_most = leb_is s.d most_axes (both (leb 1 s.d) (leb s.d most_axes) axes_within).1

  -- the bonds decide, where all before them passes
  pub bonds_left : (v w : Unit {0}) (c : Check) → Ok v ≡ demand_each Size (size_ok s) s.d 0 → Ok w ≡ demand (eqb (left_of s 0) 1) (Ranks 0) → c ≡ demand_each Ranks (bond_ok s) s.d 0 → c ≡ chain_ok s
  unfolding shape_ok
  bonds_left v w c q r h =
      let alone = each_same Ranks (bond_ok s) (λ (k : ℕ). bond_ok s k && true) s.d 0 (λ k a d. sym (and_true (bond_ok s k))) in
      h ∙ alone ∙ sym (then_skip _ _ _ (demand_yes _ Axes axes_within) (then_skip _ _ _ (sym q) (then_skip _ _ _ (sym r) refl)))

pub ruleset demands = (axes_most, bonds_left)
