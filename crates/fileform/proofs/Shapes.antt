-- Laws of shapes: what an accepted one meets, and that what stands in the places from d on decides nothing. Assumes nothing.
use Rattle.std.specs.Prelude.{Ok, Err}
use mathlib.Core.Path.{◌≡◌, refl, sym, ap, ◌∙◌}
use Prim.Native.Nat.{ℕ, zero, suc, ◌≤◌, ◌<◌, zero-le}
use native.Mathlib.Nat.{le_refl}
use native.Mathlib.Omega.{arith}
use mathlib.Core.Bool.{Bool, true, false, ◌&&◌}
use lib.Dec.{ltb, eqb}
use Rattle.answers.specs.declared.Refusal.{Refusal}
use Rattle.answers.specs.declared.Refusal.TheVariants.{Axes, Size, Ranks}
use Rattle.answers.specs.Table.{number_of}
use Rattle.answers.specs.Outcome.{Check, ◌then◌, demand, demand_each}
use Rattle.answers.proofs.Outcomes.{ok_err, err_inj}
use Rattle.answers.proofs.Checks.{demand_yes, demand_is, then_is, then_skip, each_yes, each_is}
use Rattle.lists.specs.Slots.{offset}
use Rattle.lists.proofs.Tests.{both, and_yes, ltb_is}
use Rattle.shape.specs.declared.Shape.{Shape}
use Rattle.shape.specs.Limits.{most_axes, within}
use Rattle.shape.specs.Shapes.{left_of, points_of, right_of, size_ok, bond_ok, shape_ok, chain_ok, core_size, entries_of}
use Rattle.shape.proofs.Offsets.{offset_same}
use Rattle.shape.proofs.Shaped.{Shaped, shaped}

-- ---- what a shape that is accepted meets
pub record Meets (s : Shape) : Type 0 where
  pub axes : within most_axes s.d ≡ true
  pub sizes : (k : ℕ) → k < s.d → size_ok s k ≡ true
  pub start : eqb (left_of s 0) 1 ≡ true
  pub bonds : (k : ℕ) → k < s.d → bond_ok s k ≡ true

module _ (s : Shape) where
  abbrev axes_ok : Check
  axes_ok = demand (within most_axes s.d) Axes

  abbrev sizes_ok : Check
  sizes_ok = demand_each Size (size_ok s) s.d 0

  abbrev start_ok : Check
  start_ok = demand (eqb (left_of s 0) 1) (Ranks 0)

  abbrev bonds_ok : Check
  bonds_ok = demand_each Ranks (λ (k : ℕ). bond_ok s k && true) s.d 0

  pub ok_meets : chain_ok s ≡ Ok tt → Meets s
  unfolding shape_ok
  ok_meets h =
      let a = then_is axes_ok (sizes_ok then start_ok then bonds_ok) tt h in
      let b = then_is sizes_ok (start_ok then bonds_ok) tt a.1 in
      let c = then_is start_ok bonds_ok tt b.1 in
      record {
        axes = demand_is (within most_axes s.d) Axes a.0;
        sizes = λ k lt. each_is Size (size_ok s) s.d 0 b.0 k zero-le (omega arith);
        start = demand_is (eqb (left_of s 0) 1) (Ranks 0) c.0;
        bonds = λ k lt. (both (bond_ok s k) true (each_is Ranks (λ (j : ℕ). bond_ok s j && true) s.d 0 c.1 k zero-le (omega arith))).0;
      }

  pub meets_ok : Meets s → chain_ok s ≡ Ok tt
  unfolding shape_ok
  meets_ok m =
      then_skip axes_ok (sizes_ok then start_ok then bonds_ok) (Ok tt) (demand_yes (within most_axes s.d) Axes m.axes)
      (then_skip sizes_ok (start_ok then bonds_ok) (Ok tt) (each_yes Size (size_ok s) s.d 0 (λ k a b. m.sizes k (omega arith)))
      (then_skip start_ok bonds_ok (Ok tt) (demand_yes (eqb (left_of s 0) 1) (Ranks 0) m.start)
      (each_yes Ranks (λ (k : ℕ). bond_ok s k && true) s.d 0 (λ k a b. and_yes (bond_ok s k) true (m.bonds k (omega arith)) refl))))

-- where 1 and 2 have been ruled out, 3 is the refusal that is left
each_refused : (r : ℕ → Refusal) (p : ℕ → Bool) (m k : ℕ) (x : Refusal) → demand_each r p m k ≡ Err x → (j : ℕ) × (r j ≡ x)
unfolding demand_each demand
each_refused r p zero k x h = absurd (ok_err h)
each_refused r p (suc m) k x h = go (p k) (each_refused r p m (suc k) x) h
  where
    go : (b : Bool) → (demand_each r p m (suc k) ≡ Err x → (j : ℕ) × (r j ≡ x)) → demand b (r k) then demand_each r p m (suc k) ≡ Err x → (j : ℕ) × (r j ≡ x)
    go true later e = later e
    go false later e = (k, err_inj e)

pub bonds_only : (s : Shape) (x : Refusal) → within most_axes s.d ≡ true → ((k : ℕ) → k < s.d → size_ok s k ≡ true) → chain_ok s ≡ Err x → number_of x ≡ 3
unfolding shape_ok demand
bonds_only s x axes sizes h = go (eqb (left_of s 0) 1) (sym first ∙ h)
  where
    go : (b : Bool) → demand b (Ranks 0) then bonds_ok s ≡ Err x → number_of x ≡ 3
    go true e = ap number_of (sym (each_refused Ranks (λ (k : ℕ). bond_ok s k && true) s.d 0 x e).1)
    go false e = ap number_of (sym (err_inj e))

    first : chain_ok s ≡ start_ok s then bonds_ok s
    first = then_skip (axes_ok s) _ _ (demand_yes _ _ axes) (then_skip (sizes_ok s) _ _ (each_yes Size (size_ok s) s.d 0 (λ k a b. sizes k (omega arith))) refl)

-- and so its limits
pub met : (s : Shape) → Meets s → Shaped s
met s m = shaped s (λ (k : ℕ). true) (meets_ok s m)

-- ---- shapes that agree
pub record Alike (s t : Shape) : Type 0 where
  pub axes : s.d ≡ t.d
  pub left : (k : ℕ) → k < s.d → left_of s k ≡ left_of t k
  pub points : (k : ℕ) → k < s.d → points_of s k ≡ points_of t k
  pub right : (k : ℕ) → k < s.d → right_of s k ≡ right_of t k

module _ (s t : Shape) (a : Alike s t) where
  pub alike_core : (k : ℕ) → k < s.d → core_size s k ≡ core_size t k
  unfolding core_size
  alike_core k lt = cc (a.left k lt, a.points k lt, a.right k lt)

  pub alike_offset : (k : ℕ) → k ≤ s.d → offset (core_size s) k ≡ offset (core_size t) k
  alike_offset k le = offset_same (core_size s) (core_size t) k (λ j l. alike_core j (omega arith))

  pub alike_entries : entries_of s ≡ entries_of t
  alike_entries = alike_offset s.d (le_refl s.d) ∙ ap (offset (core_size t)) a.axes

  pub alike_size : (k : ℕ) → k < s.d → size_ok s k ≡ size_ok t k
  unfolding size_ok
  alike_size k lt = rw (a.left k lt, a.points k lt, a.right k lt)

  alike_bond : (k : ℕ) → k < s.d → bond_ok s k ≡ bond_ok t k
  unfolding bond_ok
  alike_bond k lt = go (ltb (suc k) s.d) refl
    where
      go : (b : Bool) → ltb (suc k) s.d ≡ b → bond_ok s k ≡ bond_ok t k
      go true e =
          let e' : ltb (suc k) t.d ≡ true = rw (← a.axes) e in
          rw (e, e', a.right k lt, a.left (suc k) (ltb_is (suc k) s.d e))
      go false e =
          let e' : ltb (suc k) t.d ≡ false = rw (← a.axes) e in
          rw (e, e', a.right k lt)

  pub alike_meets : Meets s → Meets t
  alike_meets m =
      record {
        axes = ap (within most_axes) (sym a.axes) ∙ m.axes;
        sizes = λ k lt. sym (alike_size k (omega (arith, a.axes))) ∙ m.sizes k (omega (arith, a.axes));
        start = ap (λ (r : ℕ). eqb r 1) (sym (a.left 0 (met s m).least)) ∙ m.start;
        bonds = λ k lt. sym (alike_bond k (omega (arith, a.axes))) ∙ m.bonds k (omega (arith, a.axes));
      }
