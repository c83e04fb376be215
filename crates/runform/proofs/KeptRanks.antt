-- The kept ranks left and right of a core, by whether there is a bond; where shape and ranks pass they are at most the source's. Assumes nothing.
use Rattle.std.specs.Prelude.{Ok}
use mathlib.Core.Path.{◌≡◌, refl, sym, ap, ◌∙◌, subst}
use Prim.Native.Nat.{ℕ, zero, suc, ◌+◌, ◌-◌, ◌≤◌, ◌<◌}
use native.Mathlib.Nat.{le_refl}
use native.Mathlib.Omega.{arith}
use mathlib.Core.Bool.{Bool, true, false, cond}
use mathlib.Core.List.{List}
use lib.Dec.{ltb}
use Rattle.lists.proofs.Tests.{ltb_yes, ltb_no, ltb_is, ltb_not}
use Rattle.shape.specs.declared.Shape.{Shape}
use Rattle.shape.specs.Limits.{within}
use Rattle.shape.specs.Shapes.{left_of, right_of, shape_ok}
use Rattle.shape.proofs.Shaped.{Shaped, shaped, kept_passes, within_is}
use Rattle.cutform.specs.declared.Bond.{Bond}
use Rattle.cutform.specs.Keeping.{rank_among}
use Rattle.runform.specs.Kept.{left_held, right_held}
use Rattle.runform.specs.Checks.{rank_ok}

module _ (s : Shape) (bonds : List Bond) (k : ℕ) where
  pub rank_bond : k + 1 < s.d → (b : Bool) → b ≡ within (right_of s k) (rank_among bonds k) → b ≡ rank_ok s bonds k
  unfolding rank_ok
  rank_bond l b e = e ∙ sym (ap (λ (x : Bool). cond x (within (right_of s k) (rank_among bonds k)) true) (ltb_yes (suc k) s.d (omega arith)))

  pub rank_end : s.d ≤ k + 1 → true ≡ rank_ok s bonds k
  unfolding rank_ok
  rank_end l = sym (ap (λ (x : Bool). cond x (within (right_of s k) (rank_among bonds k)) true) (ltb_no (suc k) s.d (omega arith)))

  pub right_bond : k + 1 < s.d → rank_among bonds k ≡ right_held s bonds k
  right_bond l = sym (ap (λ (x : Bool). cond x (rank_among bonds k) (right_of s k)) (ltb_yes (suc k) s.d (omega arith)))

  pub right_end : s.d ≤ k + 1 → right_of s k ≡ right_held s bonds k
  right_end l = sym (ap (λ (x : Bool). cond x (rank_among bonds k) (right_of s k)) (ltb_no (suc k) s.d (omega arith)))

pub left_first : (bonds : List Bond) (k : ℕ) → k < 1 → 1 ≡ left_held bonds k
left_first bonds zero l = refl
left_first bonds (suc k) l = let z : ⊥ = omega arith in absurd z

pub left_next : (bonds : List Bond) (k : ℕ) → 1 ≤ k → rank_among bonds (k - 1) ≡ left_held bonds k
left_next bonds zero l = let z : ⊥ = omega arith in absurd z
left_next bonds (suc k) l = let e : suc k - 1 ≡ k = omega arith in ap (λ (j : ℕ). rank_among bonds j) e

-- ---- a run whose shape and ranks pass has a chain that stands in the room of its source
module _ (s : Shape) (bonds : List Bond) (ok : shape_ok s (rank_ok s bonds) ≡ Ok tt) where
  abbrev shp : Shaped s
  shp = shaped s (rank_ok s bonds) ok

  pub rank_within : (k : ℕ) → k + 1 < s.d → (1 ≤ rank_among bonds k) × (rank_among bonds k ≤ right_of s k)
  rank_within k l =
      within_is (right_of s k) (rank_among bonds k) (rank_bond s bonds k l (within (right_of s k) (rank_among bonds k)) refl ∙ kept_passes s (rank_ok s bonds) ok k (omega arith))

  pub right_within : (k : ℕ) → k < s.d → (1 ≤ right_held s bonds k) × (right_held s bonds k ≤ right_of s k)
  right_within k l = go (ltb (k + 1) s.d) refl
    where
      go : (b : Bool) → ltb (k + 1) s.d ≡ b → (1 ≤ right_held s bonds k) × (right_held s bonds k ≤ right_of s k)
      go true e = let m = ltb_is (k + 1) s.d e in subst (λ (x : ℕ). (1 ≤ x) × (x ≤ right_of s k)) (right_bond s bonds k m) (rank_within k m)
      go false e = let m = ltb_not (k + 1) s.d e in subst (λ (x : ℕ). (1 ≤ x) × (x ≤ right_of s k)) (right_end s bonds k m) (shp.right k l, le_refl (right_of s k))

  pub left_within : (k : ℕ) → k < s.d → (1 ≤ left_held bonds k) × (left_held bonds k ≤ left_of s k)
  left_within zero l = (le_refl 1, omega (arith, shp.first))
  left_within (suc k) l = let r = rank_within k (omega arith) in (r.0, omega (arith, r.1, shp.joins k l))
