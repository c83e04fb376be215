-- What a shape that passes refusals 1 to 3 is like. Assumes nothing.
use mathlib.Core.Path.{◌≡◌, sym, ap, ◌∙◌}
use Prim.Native.Nat.{ℕ, suc, ◌≤◌, ◌<◌}
use native.Mathlib.Omega.{arith}
use mathlib.Core.Bool.{Bool, true, cond, ◌&&◌}
use lib.Dec.{leb, eqb}
use Rattle.answers.specs.declared.Refusal.TheVariants.{Axes, Size, Ranks}
use Rattle.std.specs.Prelude.{Ok}
use Rattle.answers.specs.Outcome.{Check, ◌then◌, demand, demand_each}
use Rattle.answers.proofs.Checks.{demand_is, then_is, each_same, each_is}
use Rattle.lists.proofs.Tests.{ltb_yes, ltb_no, leb_is, eqb_is, both}
use Rattle.shape.specs.declared.Shape.{Shape}
use Rattle.shape.specs.Limits.{most_axes, most_points, most_rank, within}
use Rattle.shape.specs.Shapes.{left_of, points_of, right_of, size_ok, bond_ok, shape_ok, chain_ok}
use Rattle.shape.specs.Sizes.{PointsWithin, SizesWithin}

pub record Shaped (s : Shape) : Type 0 where
  pub sizes : SizesWithin s
  pub least : 1 ≤ s.d
  pub most : s.d ≤ most_axes
  pub first : left_of s 0 ≡ 1
  pub right : (k : ℕ) → k < s.d → 1 ≤ right_of s k
  pub joins : (k : ℕ) → suc k < s.d → right_of s k ≡ left_of s (suc k)
  pub last : (k : ℕ) → suc k ≡ s.d → right_of s k ≡ 1

pub within_is : (most x : ℕ) → within most x ≡ true → (1 ≤ x) × (x ≤ most)
within_is most x e = let w = both (leb 1 x) (leb x most) e in (leb_is 1 x w.0, leb_is x most w.1)

-- a verdict in code that it fits says that the check passes
pub fits_passes : (c : Check) (v : Check) → v ≡ c → v ≡ Ok tt → c ≡ Ok tt
fits_passes c v e f = sym e ∙ f

module _ (s : Shape) where
  size_is : (k : ℕ) → size_ok s k ≡ true → ((1 ≤ left_of s k) × (left_of s k ≤ most_rank)) × ((1 ≤ points_of s k) × (points_of s k ≤ most_points)) × ((1 ≤ right_of s k) × (right_of s k ≤ most_rank))
  unfolding size_ok
  size_is k e =
      let a = both (within most_rank (left_of s k)) (within most_points (points_of s k) && within most_rank (right_of s k)) e in
      let b = both (within most_points (points_of s k)) (within most_rank (right_of s k)) a.1 in
      (within_is most_rank (left_of s k) a.0, within_is most_points (points_of s k) b.0, within_is most_rank (right_of s k) b.1)

  bond_joins : (k : ℕ) → suc k < s.d → bond_ok s k ≡ true → right_of s k ≡ left_of s (suc k)
  unfolding bond_ok
  bond_joins k lt e =
      eqb_is (right_of s k) (left_of s (suc k))
      (sym (ap (λ (b : Bool). cond b (eqb (right_of s k) (left_of s (suc k))) (eqb (right_of s k) 1)) (ltb_yes (suc k) s.d lt)) ∙ e)

  bond_ends : (k : ℕ) → suc k ≡ s.d → bond_ok s k ≡ true → right_of s k ≡ 1
  unfolding bond_ok
  bond_ends k at e =
      eqb_is (right_of s k) 1
      (sym (ap (λ (b : Bool). cond b (eqb (right_of s k) (left_of s (suc k))) (eqb (right_of s k) 1)) (ltb_no (suc k) s.d (omega arith))) ∙ e)

  -- refusals 1 and 2 have passed
  pub sized : demand (within most_axes s.d) Axes ≡ Ok tt → demand_each Size (size_ok s) s.d 0 ≡ Ok tt → SizesWithin s
  sized a b =
      let w = within_is most_axes s.d (demand_is (within most_axes s.d) Axes a) in
      let z : (k : ℕ) (lt : k < s.d) → _ = λ k lt. size_is k (each_is Size (size_ok s) s.d 0 b k (omega arith) (omega arith)) in
      record { axes = record { least = w.0; most = w.1; points = λ k lt. (z k lt).1 }; left = λ k lt. (z k lt).0; right = λ k lt. (z k lt).2 }

  -- refusal 3 has passed: each bond joins, and what else is asked of it holds
  bond_passes : (kept : ℕ → Bool) → shape_ok s kept ≡ Ok tt → (k : ℕ) → k < s.d → (bond_ok s k ≡ true) × (kept k ≡ true)
  unfolding shape_ok
  bond_passes kept e k lt =
      let bonds = demand_each Ranks (λ (i : ℕ). bond_ok s i && kept i) s.d 0 in
      let ends = demand (eqb (left_of s 0) 1) (Ranks 0) then bonds in
      let a = then_is (demand (within most_axes s.d) Axes) (demand_each Size (size_ok s) s.d 0 then ends) tt e in
      let b = then_is (demand_each Size (size_ok s) s.d 0) ends tt a.1 in
      let c = then_is (demand (eqb (left_of s 0) 1) (Ranks 0)) bonds tt b.1 in
      both (bond_ok s k) (kept k) (each_is Ranks (λ (i : ℕ). bond_ok s i && kept i) s.d 0 c.1 k (omega arith) (omega arith))

  pub kept_passes : (kept : ℕ → Bool) → shape_ok s kept ≡ Ok tt → (k : ℕ) → k < s.d → kept k ≡ true
  kept_passes kept e k lt = (bond_passes kept e k lt).1

  -- whatever else is asked of its bonds
  pub shaped : (kept : ℕ → Bool) → shape_ok s kept ≡ Ok tt → Shaped s
  unfolding shape_ok
  shaped kept e =
      let a = then_is _ _ tt e in
      let b = then_is _ _ tt a.1 in
      let c = then_is _ _ tt b.1 in
      let z = sized a.0 b.0 in
      let j = bond_passes kept e in
      record {
        sizes = z;
        least = z.axes.least;
        most = z.axes.most;
        first = eqb_is (left_of s 0) 1 (demand_is (eqb (left_of s 0) 1) (Ranks 0) c.0);
        right = λ k lt. (z.right k lt).0;
        joins = λ k lt. bond_joins k lt (j k (omega arith)).0;
        last = λ k at. bond_ends k at (j k (omega arith)).0;
      }

  -- from a verdict in code that it fits
  pub fits_shaped : (kept : ℕ → Bool) (v : Check) → v ≡ shape_ok s kept → v ≡ Ok tt → Shaped s
  fits_shaped kept v e f = shaped kept (fits_passes (shape_ok s kept) v e f)

  -- what the check's answer lets a caller do
  pub fits_sizes : (kept : ℕ → Bool) (v : Check) → v ≡ shape_ok s kept → v ≡ Ok tt → SizesWithin s
  fits_sizes kept v e f = (fits_shaped kept v e f).sizes

  pub fits_points : (kept : ℕ → Bool) (v : Check) → v ≡ shape_ok s kept → v ≡ Ok tt → PointsWithin s
  fits_points kept v e f = (fits_sizes kept v e f).axes

  -- what else is asked of a bond matters only for the bonds that there are
  pub shape_same : (p q : ℕ → Bool) → ((k : ℕ) → k < s.d → p k ≡ q k) → shape_ok s p ≡ shape_ok s q
  unfolding shape_ok
  shape_same p q h =
      ap (λ (x : Check). demand (within most_axes s.d) Axes then demand_each Size (size_ok s) s.d 0 then demand (eqb (left_of s 0) 1) (Ranks 0) then x)
      (each_same Ranks (λ (k : ℕ). bond_ok s k && p k) (λ (k : ℕ). bond_ok s k && q k) s.d 0 (λ k a b. ap (λ (x : Bool). bond_ok s k && x) (h k (omega arith))))

  pub chain_passes : (kept : ℕ → Bool) → shape_ok s kept ≡ Ok tt → chain_ok s ≡ Ok tt
  chain_passes kept e = sym (shape_same kept (λ (k : ℕ). true) (kept_passes kept e)) ∙ e
