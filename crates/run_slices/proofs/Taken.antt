-- The slot left of a zone, taken out of one list into the same place of another. Assumes nothing.
use mathlib.Core.Path.{◌≡◌, sym, ap, ◌∙◌}
use Prim.Native.Nat.{ℕ, zero, suc, ◌-◌, ◌*◌, ◌≤◌, ◌<◌}
use native.Mathlib.Omega.{arith}
use mathlib.Core.List.{List, ◌++◌}
use lib.ListN.{length, take, drop, length-drop}
use lib.Seq.{length-take-le, take_at, drop_at}
use lib.Ieee.{Float}
use mir.Syntax.{w64}
use mir.Val.{Fits}
use Rattle.lists.specs.Slots.{offset, slot}
use Rattle.lists.proofs.Slots.{offset_suc, offset_mono}
use Rattle.shape.specs.declared.Shape.{Shape}
use Rattle.shape.specs.Sizes.{SizesWithin}
use Rattle.sumform.specs.Sums.{sum_size}
use Rattle.product.proofs.Slotted.{sum_size_lem, sums_most}
use Rattle.run_slices.specs.Passing.{Beside, over_from, over_between}

-- left of zone 0 there is none
pub none_left : (size : ℕ → ℕ) (z : ℕ) (l l' : List Float) → z < 1 → Beside size z l l'
none_left size zero l l' h = tt
none_left size (suc k) l l' h = let n : ⊥ = omega arith in absurd n

module _ (size : ℕ → ℕ) (at end : ℕ) where
  -- the slot left of zone z, of d
  pub left_starts : (z : ℕ) → at ≡ offset size (z - 1) → end ≡ offset size z → at ≤ end
  left_starts z e f = omega (arith, offset_mono size (z - 1) z (omega arith))

  pub left_ends : (z d n : ℕ) → end ≡ offset size z → z < d → offset size d ≤ n → end ≤ n
  left_ends z d n f lt long = omega (arith, offset_mono size z d (omega arith))

  pub left_taken : (z : ℕ) (from to to' : List Float) → to' ≡ over_between at end to from → at ≡ offset size (z - 1) → end ≡ offset size z → 1 ≤ z
      → end ≤ length from → end ≤ length to → Beside size z from to'
  unfolding slot
  left_taken zero from to to' g e f h long room = let n : ⊥ = omega arith in absurd n
  left_taken (suc k) from to to' g e f h long room =
      let a : offset size k ≡ at = let j : suc k - 1 ≡ k = omega arith in sym (e ∙ ap (offset size) j) in
      let next = offset_suc size k in
      let m : size k ≡ end - at = omega arith in
      let part = take (end - at) (drop at from) in
      let n = length-drop at from in
      ap (λ (x : List Float). take (size k) (drop (offset size k) x)) g
      ∙ ap (λ (i : ℕ). take (size k) (drop i (over_between at end to from))) a
      ∙ ap (take (size k)) (drop_at (take at to) (part ++ drop end to) at (length-take-le at to (omega arith)))
      ∙ take_at part (drop end to) (size k) (length-take-le (end - at) (drop at from) (omega arith) ∙ sym m)
      ∙ ap (λ (i : ℕ). take i (drop at from)) (sym m)
      ∙ ap (λ (i : ℕ). take (size k) (drop i from)) (sym a)

pub ruleset taking = (none_left, left_starts, left_ends, left_taken)

-- ---- where a commit starts
pub slot_starts : (size : ℕ → ℕ) (z d : ℕ) → z ≤ d → (at : ℕ) → at ≡ offset size z → (n : ℕ) → n ≡ offset size d → at ≤ n
slot_starts size z d le at e n h = omega (arith, offset_mono size z d le)

pub over_at : (at n : ℕ) → at ≡ n → (l w l' : List Float) → l' ≡ over_from at l w → l' ≡ over_from n l w
over_at at n e l w l' f = f ∙ ap (λ (j : ℕ). over_from j l w) e

-- the figure stands first in the last slot
module _ (s : Shape) (w : SizesWithin s) (last : ℕ) (e : last ≡ offset (sum_size s) (s.d - 1)) (n m : ℕ) (h : n ≡ offset (sum_size s) s.d) (l : n ≤ m) where
  pub last_within : last < m
  last_within =
      let one = w.axes.least in
      let d : suc (s.d - 1) ≡ s.d = omega arith in
      let a : offset (sum_size s) (suc (s.d - 1)) ≡ offset (sum_size s) s.d = ap (offset (sum_size s)) d in
      omega (arith, offset_suc (sum_size s) (s.d - 1), sum_size_lem s (s.d - 1), (w.right (s.d - 1) (omega arith)).0)

  pub last_fits : Fits w64 (last * 8)
  last_fits = record { fits = omega (arith, sums_most s w (s.d - 1) (omega arith)) }

pub ruleset committing = (slot_starts, over_at, last_within, last_fits)
