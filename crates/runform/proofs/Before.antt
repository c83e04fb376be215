-- What a run holds before zone z is as it was after a step from z on. On any run with room for its zones; assumes nothing of the rules.
use mathlib.Core.Path.{◌≡◌, refl, sym, ap, ◌∙◌, subst}
use Prim.Native.Nat.{ℕ, zero, suc, ◌+◌, ◌-◌, ◌*◌, ◌≤◌, ◌<◌}
use native.Mathlib.Nat.{add-zero}
use native.Mathlib.Omega.{arith}
use mathlib.Core.Bool.{Bool, cond}
use mathlib.Core.List.{List, map}
use lib.Dec.{ltb}
use lib.ListN.{length, take}
use lib.Seq.{get_or-take}
use lib.Ieee.{Float}
use Rattle.numbers.specs.Arithmetic.{zero64}
use Rattle.lists.specs.Slots.{offset, slot, write}
use Rattle.lists.proofs.Tests.{ltb_no}
use Rattle.lists.proofs.Slots.{offset_suc, offset_mono, slot_before, write_before}
use Rattle.shape.specs.declared.Shape.{Shape}
use Rattle.shape.specs.Shapes.{points_of, right_of, core_size}
use Rattle.shape.specs.Cores.{Core, core_with}
use Rattle.cutform.specs.declared.Bond.{Bond}
use Rattle.cutform.specs.Bonds.{no_bond, past_bond}
use Rattle.cutform.specs.Rounding.{Carry, Cut, numbers_in}
use Rattle.runform.specs.Kept.{left_rank, right_rank, kept_core, kept_carry, held_core}
use Rattle.cutform.specs.Keeping.{Stepped, bond_size, carry_size, bond_among, rank_at, keep_step}
use Rattle.cutform.proofs.BondSlots.{bond_offset}

-- d zones have d - 1 bonds
pub bond_count : (s : Shape) → 1 ≤ s.d → offset (bond_size s) s.d ≡ s.d - 1
unfolding bond_size
bond_count s one =
    let p = s.d - 1 in
    let e : suc p ≡ s.d = omega arith in
    let n = ltb_no (suc p) s.d (omega arith) in
    ap (offset (bond_size s)) (sym e)
    ∙ offset_suc (bond_size s) p
    ∙ ap (λ (b : Bool). offset (bond_size s) p + cond {A = ℕ} b 1 0) n
    ∙ add-zero (offset (bond_size s) p)
    ∙ bond_offset s p (omega arith)

-- every zone has its place in arrays and slices
pub record Roomy (s : Shape) (t : Stepped) : Type 0 where
  pub bonds : offset (bond_size s) s.d ≤ length t.bonds
  pub chain : offset (core_size s) s.d ≤ length t.chain
  pub carries : offset (carry_size s) s.d ≤ length t.carries

module _ (s : Shape) (t : Stepped) (roomy : Roomy s t) (z : ℕ) (inside : z < s.d) (c : List (Carry × Cut)) where
  pub bond_before : (k : ℕ) → k < z → bond_among (keep_step s z c t).bonds k ≡ bond_among t.bonds k
  unfolding keep_step
  bond_before k lt =
      let m = offset_mono (bond_size s) z s.d (omega arith) in
      let r = roomy.bonds in
      let new = write (bond_size s) no_bond s.d z (map (λ (x : Carry × Cut). x.1.bonds) c) t.bonds in
      let e : take z new ≡ take z t.bonds =
      subst (λ (j : ℕ). take j new ≡ take j t.bonds) (bond_offset s z inside) (write_before (bond_size s) no_bond s.d z (map (λ (x : Carry × Cut). x.1.bonds) c) t.bonds (omega arith)) in
      sym (get_or-take z new k past_bond lt) ∙ ap (λ (l : List Bond). bond_among l k) e ∙ get_or-take z t.bonds k past_bond lt

  pub rank_before : (k : ℕ) → k < z → rank_at (keep_step s z c t) k ≡ rank_at t k
  rank_before k lt = ap (λ (b : Bond). b.rank) (bond_before k lt)

  pub left_before : (k : ℕ) → k ≤ z → left_rank (keep_step s z c t) k ≡ left_rank t k
  left_before zero le = refl
  left_before (suc k) le = rank_before k le

  pub right_before : (k : ℕ) → k < z → right_rank s (keep_step s z c t) k ≡ right_rank s t k
  right_before k lt = ap (λ (x : ℕ). cond (ltb (suc k) s.d) x (right_of s k)) (rank_before k lt)

  pub core_before : (k : ℕ) → k < z → kept_core s (keep_step s z c t) k ≡ kept_core s t k
  unfolding held_core keep_step
  core_before k lt =
      let m = offset_mono (core_size s) z s.d (omega arith) in
      let r = roomy.chain in
      let q = map (λ (x : Carry × Cut). x.1.core.entries) c in
      let of : ℕ → ℕ → List Float → Core = λ a b x. core_with a (points_of s k) b (take (a * points_of s k * b) x) in
      let X = slot (core_size s) k (keep_step s z c t).chain in
      ap (λ (a : ℕ). of a (right_rank s (keep_step s z c t) k) X) (left_before k (omega arith))
      ∙ ap (λ (b : ℕ). of (left_rank t k) b X) (right_before k lt)
      ∙ ap (λ (x : List Float). of (left_rank t k) (right_rank s t k) x)
      (slot_before (core_size s) k z (write (core_size s) zero64 s.d z q t.chain) t.chain lt (write_before (core_size s) zero64 s.d z q t.chain (omega arith)))

  pub carry_before : (k : ℕ) → k < z → kept_carry s (keep_step s z c t) k ≡ kept_carry s t k
  unfolding keep_step
  carry_before k lt =
      let m = offset_mono (carry_size s) z s.d (omega arith) in
      let r = roomy.carries in
      let q = map (λ (x : Carry × Cut). numbers_in x.0) c in
      let X = slot (carry_size s) k (keep_step s z c t).carries in
      ap (λ (a : ℕ). take (a * right_of s k) X) (rank_before k lt)
      ∙ ap (take (rank_at t k * right_of s k))
      (slot_before (carry_size s) k z (write (carry_size s) zero64 s.d z q t.carries) t.carries lt (write_before (carry_size s) zero64 s.d z q t.carries (omega arith)))
