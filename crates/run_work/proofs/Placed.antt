-- New weights of one zone in the room where they are summed, and what goes into the run. Assumes nothing.
use mathlib.Core.Path.{◌≡◌, refl, sym, ap, ◌∙◌}
use Prim.Native.Nat.{ℕ, suc, ◌+◌, ◌-◌, ◌*◌, ◌≤◌, ◌<◌}
use native.Mathlib.Nat.{sub-zero, le_of_eq}
use native.Mathlib.Omega.{arith}
use mathlib.Core.List.{List, ◌++◌, append_assoc}
use lib.ListN.{length, take, drop}
use lib.Seq.{take_at, take-append-le, drop-append-le}
use lib.Ieee.{Float}
use mir.Syntax.{w64}
use mir.Val.{Fits}
use Rattle.answers.specs.Outcome.{answered, Check}
use Rattle.lists.specs.Slots.{offset, put}
use Rattle.lists.proofs.Slots.{offset_suc, offset_mono, put_length}
use Rattle.shape.specs.declared.Shape.{Shape}
use Rattle.shape.specs.Limits.{most_sums}
use Rattle.shape.specs.Shapes.{point_size, all_points, entries_of}
use Rattle.shape.specs.Sizes.{SizesWithin, Inside}
use Rattle.sumform.specs.Sums.{sum_size, sums_from}
use Rattle.product.specs.Lent.{SumsStand}
use Rattle.product.proofs.Slotted.{sum_size_lem, sums_most}
use Rattle.run_slices.proofs.Committed.{put_slot}

-- ---- the part
module _ (s : Shape) (z : ℕ) (part weights : List Float) (lt : z < s.d) (p : length part ≡ point_size s z) (w : length weights ≡ all_points s) (at : ℕ) (e : at ≡ offset (point_size s) z) where
  pub part_ends : at + length part ≤ length weights
  part_ends = omega (arith, offset_suc (point_size s) z, offset_mono (point_size s) (suc z) s.d lt)

  part_long : length (put (point_size s) z part weights) ≡ length weights
  part_long = put_length (point_size s) z part weights p (omega (arith, offset_mono (point_size s) (suc z) s.d lt))

  pub part_in : take at weights ++ (part ++ drop (at + length part) weights) ≡ put (point_size s) z part weights
  part_in = put_slot (point_size s) z at e part weights p

  -- the weights stood at the front of x, and then the part
  pub front_in : (a x y : List Float) → x ≡ take 0 a ++ (weights ++ drop (0 + length weights) a) → y ≡ take at x ++ (part ++ drop (at + length part) x)
      → take (length weights - 0) y ≡ put (point_size s) z part weights
  front_in a x y f g =
      let n = at + length part in
      let R = drop (0 + length weights) a in
      let h = part_ends in
      let P = take at weights ++ (part ++ drop n weights) in
      let b : take at x ++ (part ++ drop n x) ≡ P ++ R =
      ap (λ (l : List Float). take at l ++ (part ++ drop n l)) f
      ∙ ap (λ (l : List Float). l ++ (part ++ drop n (weights ++ R))) (take-append-le at weights R (omega arith))
      ∙ ap (λ (l : List Float). take at weights ++ (part ++ l)) (drop-append-le n weights R h)
      ∙ ap (λ (l : List Float). take at weights ++ l) (sym (append_assoc part (drop n weights) R))
      ∙ sym (append_assoc (take at weights) (part ++ drop n weights) R) in
      ap (λ (m : ℕ). take m y) (sub-zero (length weights))
      ∙ ap (take (length weights)) (g ∙ b)
      ∙ take_at P R (length weights) (ap length part_in ∙ part_long)
      ∙ part_in

-- ---- the sums
-- held at the front of x, and summed there: u came back
module _ (s t : Shape) (z : ℕ) (chain weights sums a x u : List Float) (f : x ≡ take 0 a ++ (sums ++ drop (0 + length sums) a)) where
  pub front_held : take (length sums - 0) x ≡ sums
  front_held = ap (λ (m : ℕ). take m x) (sub-zero (length sums)) ∙ ap (take (length sums)) f ∙ take_at sums (drop (0 + length sums) a) (length sums) refl

  pub summed_front : (w : List Float) (v : Check) → w ≡ weights → sums_from s t chain w z (take (length sums - 0) x) ≡ answered v u → length u ≡ length (take (length sums - 0) x)
      → sums_from s t chain weights z sums ≡ answered v (take (length sums) (u ++ drop (length sums - 0) x))
  summed_front w v g e n =
      ap (λ (l : List Float). sums_from s t chain l z sums) (sym g)
      ∙ ap (sums_from s t chain w z) (sym front_held)
      ∙ e
      ∙ ap (answered v) (sym (take_at u (drop (length sums - 0) x) (length sums) (n ∙ ap length front_held)))

pub sums_fit : (s : Shape) → SizesWithin s → (n : ℕ) → n ≡ offset (sum_size s) s.d → n ≤ most_sums
sums_fit s w n e = omega (arith, sums_most s w s.d (omega arith))

-- what the sums ask
pub stands : (s t : Shape) (z : ℕ) (chain weights part w : List Float)
    → SizesWithin s → Inside s t → entries_of s ≤ length chain → z < s.d
    → length part ≡ point_size s z → length weights ≡ all_points s → w ≡ put (point_size s) z part weights → SumsStand s t chain w
stands s t z chain weights part w a b c lt p e f =
    let n = put_length (point_size s) z part weights p (omega (arith, offset_mono (point_size s) (suc z) s.d lt)) in
    record { within = a; inside = b; cores = c; points = le_of_eq (sym (ap length f ∙ n ∙ e)) }

-- ---- where the figure stands
module _ (s : Shape) (w : SizesWithin s) (at : ℕ) (e : at ≡ offset (sum_size s) (s.d - 1)) where
  pub figure_fits : Fits w64 (at * 8)
  figure_fits = record { fits = omega (arith, sums_most s w (s.d - 1) (omega arith)) }

  pub figure_in : (n : ℕ) → n ≡ offset (sum_size s) s.d → at < n
  figure_in n f =
      let d : suc (s.d - 1) ≡ s.d = omega (arith, w.axes.least) in
      let g = ap (offset (sum_size s)) d in
      omega (arith, offset_suc (sum_size s) (s.d - 1), sum_size_lem s (s.d - 1), (w.right (s.d - 1) (omega (arith, w.axes.least))).0)
