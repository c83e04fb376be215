-- The ranks of a list of cores in a shape: where they stand, and that later ones take the place of earlier ones. Assumes nothing.
use mathlib.Core.Path.{◌≡◌, refl, sym, ap, ◌∙◌}
use Prim.Native.Nat.{ℕ, zero, suc, ◌+◌, ◌≤◌, ◌<◌}
use native.Mathlib.Nat.{add-zero, zero-add}
use native.Mathlib.Omega.{arith}
use mathlib.Core.List.{List, [], ◌∷◌}
use lib.ListN.{length, get_or}
use lib.Seq.{ext_get_or}
use lib.ListN.{length-set}
use Rattle.lists.proofs.Tests.{below_or_not}
use Rattle.shape.specs.declared.Shape.{Shape}
use Rattle.shape.specs.Shapes.{left_of, right_of}
use Rattle.shape.specs.Cores.{Core, with_core, reshaped}
use Rattle.shape.proofs.Ranks.{left_other, right_other, left_here, right_here, reshaped_count, reshaped_points, reshaped_left, reshaped_right}

pub record Ranked (s t : Shape) (j : ℕ) : Type 0 where
  pub left : left_of t j ≡ left_of s j
  pub right : right_of t j ≡ right_of s j

-- what stands before k, and behind the cores, is as it was
pub reshaped_out : (k : ℕ) (s : Shape) (cs : List Core) (j : ℕ) → (k ≤ j → j < k + length cs → ⊥) → Ranked s (reshaped k s cs) j
unfolding reshaped
reshaped_out k s [] j g = record { left = refl; right = refl }
reshaped_out k s (c ∷ cs) j g =
    let n : j ≡ k → ⊥ = λ e. g (omega arith) (omega arith) in
    let R = reshaped_out (suc k) (with_core s k c) cs j (λ a b. g (omega arith) (omega arith)) in
    record { left = R.left ∙ left_other s k c j n; right = R.right ∙ right_other s k c j n }

-- the i-th core's ranks stand at k + i
pub reshaped_at : (k : ℕ) (s : Shape) (cs : List Core) (i : ℕ) (o : Core) → i < length cs → k + length cs ≤ length s.left → k + length cs ≤ length s.right
    → (left_of (reshaped k s cs) (k + i) ≡ (get_or cs i o).rl) × (right_of (reshaped k s cs) (k + i) ≡ (get_or cs i o).rr)
unfolding reshaped
reshaped_at k s [] i o l a b = let z : ⊥ = omega arith in absurd z
reshaped_at k s (c ∷ cs) zero o l a b =
    let R = reshaped_out (suc k) (with_core s k c) cs k (λ m n. omega arith) in
    (ap (left_of (reshaped (suc k) (with_core s k c) cs)) (add-zero k) ∙ R.left ∙ left_here s k c (omega arith), ap (right_of (reshaped (suc k) (with_core s k c) cs)) (add-zero k) ∙ R.right ∙ right_here s k c (omega arith))
reshaped_at k s (c ∷ cs) (suc i) o l a b =
    let e : k + suc i ≡ suc k + i = omega arith in
    let x = length-set s.left k c.rl in
    let y = length-set s.right k c.rr in
    let R = reshaped_at (suc k) (with_core s k c) cs i o (omega arith) (omega arith) (omega arith) in
    (ap (left_of (reshaped (suc k) (with_core s k c) cs)) e ∙ R.0, ap (right_of (reshaped (suc k) (with_core s k c) cs)) e ∙ R.1)

-- the ranks of as many cores, one list after the other: those of the last
pub reshaped_again : (s : Shape) (cs ds : List Core) → length cs ≡ length ds → length ds ≤ length s.left → length ds ≤ length s.right → reshaped 0 (reshaped 0 s cs) ds ≡ reshaped 0 s ds
reshaped_again s cs ds same a b =
    let t = reshaped 0 s cs in
    let x = reshaped_left 0 s cs in
    let y = reshaped_right 0 s cs in
    let L : (reshaped 0 t ds).left ≡ (reshaped 0 s ds).left =
    ext_get_or 0 (reshaped 0 t ds).left (reshaped 0 s ds).left (reshaped_left 0 t ds ∙ x ∙ sym (reshaped_left 0 s ds)) (λ j l. (alike j).0) in
    let R : (reshaped 0 t ds).right ≡ (reshaped 0 s ds).right =
    ext_get_or 0 (reshaped 0 t ds).right (reshaped 0 s ds).right (reshaped_right 0 t ds ∙ y ∙ sym (reshaped_right 0 s ds)) (λ j l. (alike j).1) in
    let d : (reshaped 0 t ds).d ≡ (reshaped 0 s ds).d = reshaped_count 0 t ds ∙ reshaped_count 0 s cs ∙ sym (reshaped_count 0 s ds) in
    let n : (reshaped 0 t ds).n ≡ (reshaped 0 s ds).n = reshaped_points 0 t ds ∙ reshaped_points 0 s cs ∙ sym (reshaped_points 0 s ds) in
    shape_is (reshaped 0 t ds) (reshaped 0 s ds) d L n R
  where
    shape_is : (p q : Shape) → p.d ≡ q.d → p.left ≡ q.left → p.n ≡ q.n → p.right ≡ q.right → p ≡ q
    shape_is p q e f g h =
        ap (λ (x : ℕ). record { d = x; left = p.left; n = p.n; right = p.right }) e
        ∙ ap (λ (x : List ℕ). record { d = q.d; left = x; n = p.n; right = p.right }) f
        ∙ ap (λ (x : List ℕ). record { d = q.d; left = q.left; n = x; right = p.right }) g
        ∙ ap (λ (x : List ℕ). record { d = q.d; left = q.left; n = q.n; right = x }) h

    alike : (j : ℕ) → (left_of (reshaped 0 (reshaped 0 s cs) ds) j ≡ left_of (reshaped 0 s ds) j) × (right_of (reshaped 0 (reshaped 0 s cs) ds) j ≡ right_of (reshaped 0 s ds) j)
    alike j = below_or_not j (length ds)
        (λ l.
        let o : Core = record { rl = 0; n = 0; rr = 0; entries = [] } in
        let p = reshaped_at 0 (reshaped 0 s cs) ds j o l (omega (arith, reshaped_left 0 s cs)) (omega (arith, reshaped_right 0 s cs)) in
        let q = reshaped_at 0 s ds j o l (omega arith) (omega arith) in
        let e = zero-add j in
        (ap (left_of (reshaped 0 (reshaped 0 s cs) ds)) (sym e) ∙ p.0 ∙ sym q.0 ∙ ap (left_of (reshaped 0 s ds)) e, ap (right_of (reshaped 0 (reshaped 0 s cs) ds)) (sym e) ∙ p.1 ∙ sym q.1 ∙ ap (right_of (reshaped 0 s ds)) e))
        (λ l.
        let p = reshaped_out 0 (reshaped 0 s cs) ds j (λ m n. omega arith) in
        let q = reshaped_out 0 s cs j (λ m n. omega arith) in
        let r = reshaped_out 0 s ds j (λ m n. omega arith) in
        (p.left ∙ q.left ∙ sym r.left, p.right ∙ q.right ∙ sym r.right))
