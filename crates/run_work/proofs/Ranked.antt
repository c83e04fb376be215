-- The shape of the chain that is kept, core by core; it stands within the source's. Assumes nothing.
use Rattle.std.specs.Prelude.{Ok}
use mathlib.Core.Path.{◌≡◌, refl, sym, ap, ◌∙◌, subst}
use Prim.Native.Nat.{ℕ, suc, ◌+◌, ◌≤◌, ◌<◌}
use native.Mathlib.Omega.{arith}
use mathlib.Core.Bool.{Bool, true, false}
use mathlib.Core.List.{List, []}
use lib.Dec.{eqb}
use lib.ListN.{length, get_or, length-set}
use Rattle.lists.proofs.Tests.{eqb_is, eqb_not}
use Rattle.shape.specs.declared.Shape.{Shape}
use Rattle.shape.specs.Limits.{most_axes, most_points}
use Rattle.shape.specs.Shapes.{left_of, right_of, shape_ok}
use Rattle.shape.specs.Sizes.{Inside}
use Rattle.shape.specs.Cores.{Core, core_with, with_core}
use Rattle.shape.proofs.Shaped.{Shaped, shaped}
use Rattle.shape.proofs.Ranks.{left_other, right_other, left_here, right_here}
use Rattle.cutform.specs.declared.Bond.{Bond}
use Rattle.runform.specs.Kept.{left_held, right_held}
use Rattle.runform.specs.Checks.{rank_ok}
use Rattle.runform.proofs.KeptRanks.{right_bond, right_end, right_within, left_within}
use Rattle.run_work.specs.Ranked.{Ranked}

pub ranked_none : (s : Shape) (bonds : List Bond) → length s.left ≡ most_axes → length s.right ≡ most_axes → Ranked s bonds s 0
ranked_none s bonds a b = record {
  axes = refl;
  points = refl;
  left = λ k l. let z : ⊥ = omega arith in absurd z;
  right = λ k l. let z : ⊥ = omega arith in absurd z;
  lefts = a;
  rights = b;
}

pub ranked_more : (s : Shape) (bonds : List Bond) (t : Shape) (k l r n : ℕ) (t' : Shape)
    → s.d ≤ most_axes → k < s.d → Ranked s bonds t k → l ≡ left_held bonds k → r ≡ right_held s bonds k
    → t' ≡ with_core t k (core_with l n r []) → Ranked s bonds t' (k + 1)
ranked_more s bonds t k l r n t' few lt R e f g = subst (λ (x : Shape). Ranked s bonds x (k + 1)) (sym g) (record {
  axes = R.axes;
  points = R.points;
  left = λ j m. here (eqb j k) refl m (λ q. ap (left_of new) q ∙ left_here t k c (omega (arith, R.lefts)) ∙ e ∙ ap (left_held bonds) (sym q)) (λ q o. left_other t k c j q ∙ R.left j o);
  right = λ j m. here (eqb j k) refl m (λ q. ap (right_of new) q ∙ right_here t k c (omega (arith, R.rights)) ∙ f ∙ ap (right_held s bonds) (sym q)) (λ q o. right_other t k c j q ∙ R.right j o);
  lefts = length-set t.left k l ∙ R.lefts;
  rights = length-set t.right k r ∙ R.rights;
})
  where
    c : Core
    c = core_with l n r []

    new : Shape
    new = with_core t k c

    here : {P : Type 0} {j : ℕ} (b : Bool) → eqb j k ≡ b → j < k + 1 → (j ≡ k → P) → ((j ≡ k → ⊥) → j < k → P) → P
    here true q m x y = x (eqb_is _ k q)
    here false q m x y = let o = eqb_not _ k q in y o (omega arith)

pub ranked_all : (s : Shape) (bonds : List Bond) (t : Shape) (k : ℕ) → Ranked s bonds t k → s.d ≤ k → Ranked s bonds t s.d
ranked_all s bonds t k R l = record { axes = R.axes; points = R.points; left = λ j m. R.left j (omega arith); right = λ j m. R.right j (omega arith); lefts = R.lefts; rights = R.rights }

-- ---- a run whose shape and ranks pass has a chain that stands in the room of its source
module _ (s : Shape) (bonds : List Bond) (ok : shape_ok s (rank_ok s bonds) ≡ Ok tt) where
  abbrev shp : Shaped s
  shp = shaped s (rank_ok s bonds) ok

  pub ranked_inside : (t : Shape) → Ranked s bonds t s.d → Inside s t
  ranked_inside t R =
      let a = R.axes in
      record {
        sizes = record {
          axes = record { least = omega (arith, shp.least); most = omega (arith, shp.most); points = λ k l. subst (λ (x : List ℕ). (1 ≤ get_or x k 0) × (get_or x k 0 ≤ most_points)) (sym R.points) (shp.sizes.axes.points k (omega arith)) };
          left = λ k l. let h : k < s.d = omega arith in let w = left_within s bonds ok k h in let e = R.left k h in (omega (arith, w.0), omega (arith, w.1, (shp.sizes.left k h).1));
          right = λ k l. let h : k < s.d = omega arith in let w = right_within s bonds ok k h in let e = R.right k h in (omega (arith, w.0), omega (arith, w.1, (shp.sizes.right k h).1));
        };
        axes = R.axes;
        points = R.points;
        left = λ k l. let w = left_within s bonds ok k l in let e = R.left k l in omega (arith, w.1);
        right = λ k l. let w = right_within s bonds ok k l in let e = R.right k l in omega (arith, w.1);
        joins = λ k l. R.right k (omega arith) ∙ sym (right_bond s bonds k (omega arith)) ∙ sym (R.left (suc k) l);
        first = R.left 0 (omega (arith, shp.least));
        last = λ k l. R.right k (omega arith) ∙ sym (right_end s bonds k (omega arith)) ∙ shp.last k l;
      }
