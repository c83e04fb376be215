-- Arrays with a place for each bond: bond k's is k, and the last core has none. Assumes nothing.
use mathlib.Core.Path.{◌≡◌, refl, sym, ap, ◌∙◌}
use Prim.Native.Nat.{ℕ, zero, suc, ◌+◌, ◌*◌, ◌≤◌, ◌<◌}
use native.Mathlib.Nat.{add-zero, mul-le-mul}
use native.Mathlib.Numerals.{add-one}
use native.Mathlib.Omega.{arith}
use mathlib.Core.Bool.{Bool, true, false, cond}
use mir.Syntax.{w64}
use mir.Val.{Fits}
use mathlib.Core.List.{List, [], ◌∷◌}
use lib.Dec.{ltb}
use lib.ListN.{length, get_or, set, take-append-drop}
use lib.Seq.{set_split}
use Rattle.lists.specs.Slots.{offset, slot, put, fit}
use Rattle.lists.proofs.Tests.{ltb_yes, ltb_no}
use Rattle.lists.proofs.Slots.{offset_suc}
use Rattle.lists.proofs.Written.{get_or_slot_lem}
use Rattle.shape.specs.declared.Shape.{Shape}
use Rattle.shape.specs.Limits.{most_rank, most_carries}
use Rattle.shape.specs.Shapes.{right_of}
use Rattle.shape.specs.Sizes.{SizesWithin}
use Rattle.shape.proofs.Offsets.{offset_more, offset_most}
use Rattle.cutform.specs.Keeping.{bond_size, carry_size}

module _ (s : Shape) where
  -- a bond has one place
  pub bond_one : (k : ℕ) → suc k < s.d → bond_size s k ≡ 1
  unfolding bond_size
  bond_one k lt = ap (λ (b : Bool). cond {A = ℕ} b 1 0) (ltb_yes (suc k) s.d lt)

  bond_none : (k : ℕ) → suc k ≡ s.d → bond_size s k ≡ 0
  unfolding bond_size
  bond_none k e = ap (λ (b : Bool). cond {A = ℕ} b 1 0) (ltb_no (suc k) s.d (omega arith))

  pub bond_offset : (k : ℕ) → k < s.d → offset (bond_size s) k ≡ k
  unfolding offset
  bond_offset zero lt = refl
  bond_offset (suc k) lt = let ih = bond_offset k (omega arith) in let e = bond_one k lt in omega arith

  module _ {A : Type 0} (k : ℕ) (l : List A) where
    -- so bond k's value is read at k
    pub bond_at : suc k < s.d → (o : A) → get_or (slot (bond_size s) k l) 0 o ≡ get_or l k o
    bond_at lt o =
        let one = bond_one k lt in
        get_or_slot_lem (bond_size s) k l 0 o (omega arith) ∙ ap (λ (j : ℕ). get_or l j o) (add-zero (offset (bond_size s) k) ∙ bond_offset k (omega arith))

    -- and written there
    pub bond_put : suc k < s.d → (o x : A) → k < length l → put (bond_size s) k (fit o (bond_size s k) (x ∷ [])) l ≡ set l k x
    unfolding put fit
    bond_put lt o x room =
        let a = bond_offset k (omega arith) in
        let b : offset (bond_size s) (suc k) ≡ suc k = offset_suc (bond_size s) k ∙ ap (λ (j : ℕ). offset (bond_size s) k + j) (bond_one k lt) ∙ ap (λ (j : ℕ). j + 1) a ∙ add-one k in
        rw (b, a, bond_one k lt) (sym (set_split l k x room))

    pub end_put : suc k ≡ s.d → (o : A) → put (bond_size s) k (fit o (bond_size s k) []) l ≡ l
    unfolding put fit
    end_put e o =
        let b : offset (bond_size s) (suc k) ≡ offset (bond_size s) k = offset_suc (bond_size s) k ∙ ap (λ (j : ℕ). offset (bond_size s) k + j) (bond_none k e) ∙ add-zero (offset (bond_size s) k) in
        rw (b, bond_none k e) (take-append-drop (offset (bond_size s) k) l)

-- ---- the slots of carries
module _ (s : Shape) (k : ℕ) where
  pub carry_bond : k + 1 < s.d → right_of s k * right_of s k ≡ carry_size s k
  unfolding carry_size
  carry_bond l = ap (λ (b : Bool). cond b (right_of s k * right_of s k) 0) (sym (ltb_yes (suc k) s.d (omega arith)))

  pub carry_end : s.d ≤ k + 1 → 0 ≡ carry_size s k
  unfolding carry_size
  carry_end l = ap (λ (b : Bool). cond b (right_of s k * right_of s k) 0) (sym (ltb_no (suc k) s.d (omega arith)))

  module _ (w : SizesWithin s) (l : k < s.d) where
    carry_most : carry_size s k ≤ most_rank * most_rank
    unfolding carry_size
    carry_most = let r = (w.right k l).1 in go (ltb (suc k) s.d) (mul-le-mul r r)
      where
        go : (b : Bool) → right_of s k * right_of s k ≤ most_rank * most_rank → cond b (right_of s k * right_of s k) 0 ≤ most_rank * most_rank
        go true h = h
        go false h = omega arith

    pub carry_fits : Fits w64 (right_of s k * right_of s k)
    carry_fits = let r = (w.right k l).1 in record { fits = omega (arith, mul-le-mul r r) }

pub carries_most : (s : Shape) → SizesWithin s → (k : ℕ) → k ≤ s.d → offset (carry_size s) k ≤ most_carries
carries_most s w k l = omega (arith, offset_most (carry_size s) (most_rank * most_rank) k (λ j m. carry_most s j w (omega arith)), w.axes.most)

pub carry_offset_fits : (s : Shape) → SizesWithin s → (k m t x : ℕ) → k < m → m ≤ s.d → t ≡ offset (carry_size s) k → x ≡ carry_size s k → Fits w64 (t + x)
carry_offset_fits s w k m t x l le e d = record { fits = omega (arith, carries_most s w (k + 1) (omega arith), offset_more (carry_size s) k t x e d) }

pub ruleset carry-slots = (carry_bond, carry_end, carry_fits, carry_offset_fits)
