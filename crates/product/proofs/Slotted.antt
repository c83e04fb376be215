-- The sums of one axis in their slot, by what each call says. Assumes nothing.
use mathlib.Core.Path.{◌≡◌, refl, sym, ap, ◌∙◌, subst}
use Prim.Native.Nat.{ℕ, zero, suc, ◌+◌, ◌-◌, ◌*◌, ◌≤◌, ◌<◌, ◌^◌}
use native.Mathlib.Nat.{le_of_eq, mul_assoc}
use native.Mathlib.Omega.{arith}
use mathlib.Core.List.{List, [], ◌∷◌, ◌++◌}
use lib.ListN.{length, take, drop, set, get_or, length-drop}
use lib.Seq.{length-take-le, take-take, take_at, drop-drop}
use lib.Ieee.{Float}
use mir.Syntax.{w64}
use mir.Val.{Fits}
use Rattle.numbers.specs.Arithmetic.{zero64, one64}
use Rattle.answers.specs.Outcome.{staged, Stage}
use Rattle.lists.specs.Slots.{offset, slot, put, fit}
use Rattle.lists.specs.Floats.{stored}
use Rattle.lists.proofs.Slots.{offset_suc, offset_mono}
use Rattle.lists.proofs.Parts.{span_length}
use Rattle.shape.specs.declared.Shape.{Shape}
use Rattle.shape.specs.Limits.{most_rank, most_sums}
use Rattle.shape.specs.Shapes.{left_of, points_of, right_of, core_size, point_size}
use Rattle.shape.specs.Sizes.{SizesWithin}
use Rattle.shape.specs.Cores.{Core, core_with, standing, points_at}
use Rattle.shape.proofs.Offsets.{offset_more, offset_most}
use Rattle.shape.proofs.Insides.{inside_size}
use Rattle.sumform.specs.Contract.{contract}
use Rattle.sumform.specs.Sums.{sum_size, sums_left}
use Rattle.product.specs.Lent.{SumsStand}

-- ---- where slots stand
module _ (s : Shape) where
  pub sum_size_lem : (k : ℕ) → right_of s k ≡ sum_size s k
  unfolding sum_size
  sum_size_lem k = refl

  pub sums_most : SizesWithin s → (k : ℕ) → k ≤ s.d → offset (sum_size s) k ≤ most_sums
  unfolding sum_size
  sums_most w k l = omega (arith, offset_most (sum_size s) most_rank k (λ j m. (w.right j (omega arith)).1), w.axes.most)

  pub sum_offset_fits : SizesWithin s → (k m t : ℕ) → k < m → m ≤ s.d → t ≡ offset (sum_size s) k → Fits w64 (t + right_of s k)
  sum_offset_fits w k m t l le e = record { fits = omega (arith, sums_most w (k + 1) (omega arith), offset_more (sum_size s) k t (right_of s k) e (sum_size_lem k)) }

  pub sum_offset_more : (k t : ℕ) → t ≡ offset (sum_size s) k → t + right_of s k ≡ offset (sum_size s) (k + 1)
  sum_offset_more k t e = offset_more (sum_size s) k t (right_of s k) e (sum_size_lem k)

pub ruleset sum_slots = (sum_offset_fits, sum_offset_more)

-- ---- what is held on the left
left_read : (s : Shape) (r : ℕ) (sums : List Float) (j : ℕ) → 1 ≤ j → r ≤ right_of s (j - 1) → take r (drop (offset (sum_size s) (j - 1)) sums) ≡ sums_left s r sums j
unfolding sums_left slot sum_size
left_read s r sums zero o m = let z : ⊥ = omega arith in absurd z
left_read s r sums (suc j) o m =
    let a : suc j - 1 ≡ j = omega arith in
    let b : r ≤ right_of s j = subst (λ (i : ℕ). r ≤ right_of s i) a m in
    ap (λ (i : ℕ). take r (drop (offset (sum_size s) i) sums)) a ∙ sym (take-take r (right_of s j) (drop (offset (sum_size s) j) sums) b)

module _ (s : Shape) (k r : ℕ) (sums eta : List Float) where
  pub left_first : k < 1 → (k ≡ 0 → r ≡ 1) → r ≤ length eta → take r (set eta 0 one64) ≡ sums_left s r sums k
  unfolding sums_left
  left_first l f h = go k (omega arith)
    where
      one : (x : List Float) → 1 ≤ length x → take 1 (set x 0 one64) ≡ one64 ∷ []
      one [] o = let z : ⊥ = omega arith in absurd z
      one (a ∷ x) o = refl

      go : (j : ℕ) → j ≡ 0 → take r (set eta 0 one64) ≡ sums_left s r sums j
      go zero e = let g : r ≡ 1 = f (omega arith) in ap (λ (n : ℕ). take n (set eta 0 one64)) g ∙ one eta (omega arith)
      go (suc j) e = let z : ⊥ = omega arith in absurd z

  module _ (l : 1 ≤ k) (lt : k < s.d) (held : offset (sum_size s) s.d ≤ length sums) (most : r ≤ right_of s (k - 1)) (at : ℕ) (e : at ≡ offset (sum_size s) (k - 1)) where
    pub left_end : at + r ≤ length sums
    left_end =
        let a = offset_suc (sum_size s) (k - 1) in
        let b = offset_mono (sum_size s) (suc (k - 1)) s.d (omega arith) in
        omega (arith, sum_size_lem s (k - 1))

    pub left_end_fits : length sums * 8 < 2 ^ 63 → Fits w64 (at + r)
    left_end_fits small = record { fits = omega (arith, left_end) }

    pub left_start_fits : length sums * 8 < 2 ^ 63 → Fits w64 (at * 8)
    left_start_fits small = record { fits = omega (arith, left_end) }

    pub left_long_lem : length (take (at + r - at) (drop at sums)) ≡ r
    left_long_lem =
        let n : at + r - at ≡ r = omega arith in
        let d = length-drop at sums in
        ap (λ (m : ℕ). length (take m (drop at sums))) n ∙ length-take-le r (drop at sums) (omega (arith, left_end))

    pub left_held_lem : (copied : List Float) → copied ≡ take (at + r - at) (drop at sums) → take r (copied ++ drop (r - 0) eta) ≡ sums_left s r sums k
    left_held_lem copied f =
        let n : at + r - at ≡ r = omega arith in
        take_at copied (drop (r - 0) eta) r (ap length f ∙ left_long_lem)
        ∙ f
        ∙ ap (λ (m : ℕ). take m (drop at sums)) n
        ∙ ap (λ (m : ℕ). take r (drop m sums)) e
        ∙ left_read s r sums k l most

-- ---- into the slot
-- the slot of axis k, which was lent and came back as x
module _ (s : Shape) (k : ℕ) (sums : List Float) (lt : k < s.d) (held : offset (sum_size s) s.d ≤ length sums) (at : ℕ) (e : at ≡ offset (sum_size s) k) where
  pub slot_ends : at + right_of s k ≤ length sums
  slot_ends = omega (arith, sum_size_lem s k, offset_suc (sum_size s) k, offset_mono (sum_size s) (suc k) s.d lt)

  pub slot_end_fits : length sums * 8 < 2 ^ 63 → Fits w64 (at + right_of s k)
  slot_end_fits small = record { fits = omega (arith, slot_ends) }

  pub slot_start_fits : length sums * 8 < 2 ^ 63 → Fits w64 (at * 8)
  slot_start_fits small = record { fits = omega (arith, slot_ends) }

  pub slot_lent : length (take (at + right_of s k - at) (drop at sums)) ≡ right_of s k
  slot_lent =
      let n : at + right_of s k - at ≡ right_of s k = omega arith in
      let d = length-drop at sums in
      ap (λ (m : ℕ). length (take m (drop at sums))) n ∙ length-take-le (right_of s k) (drop at sums) (omega (arith, slot_ends))

  pub slot_kept : (x y : List Float) → x ≡ fit zero64 (length (take (at + right_of s k - at) (drop at sums))) y
      → take at sums ++ (x ++ drop (at + right_of s k - at) (drop at sums)) ≡ put (sum_size s) k (fit zero64 (sum_size s k) y) sums
  unfolding put
  slot_kept x y f =
      let n : at + right_of s k - at ≡ right_of s k = omega arith in
      let g : x ≡ fit zero64 (sum_size s k) y = f ∙ ap (λ (m : ℕ). fit zero64 m y) (slot_lent ∙ sum_size_lem s k) in
      let h : at + (at + right_of s k - at) ≡ offset (sum_size s) (suc k) = omega (arith, sum_size_lem s k, offset_suc (sum_size s) k) in
      ap (λ (m : ℕ). take m sums ++ (x ++ drop (at + right_of s k - at) (drop at sums))) e
      ∙ ap (λ (y : List Float). take (offset (sum_size s) k) sums ++ (y ++ drop (at + right_of s k - at) (drop at sums))) g
      ∙ ap (λ (z : List Float). take (offset (sum_size s) k) sums ++ (fit zero64 (sum_size s k) y ++ z)) (drop-drop (at + right_of s k - at) at sums ∙ ap (λ (m : ℕ). drop m sums) h)

-- ---- one axis
stands : (s t : Shape) (work : List Float) (k : ℕ) → core_with (left_of t k) (points_of t k) (right_of t k) (standing s t work k).entries ≡ standing s t work k
unfolding standing
stands s t work k = refl

module _ (s t : Shape) (k : ℕ) (work weights : List Float) (S : SumsStand s t work weights) (lt : k < s.d) where
  module _ (at size : ℕ) (e : at ≡ offset (core_size s) k) (f : size ≡ core_size t k) where
    pub core_ends : at + size ≤ length work
    core_ends = omega (arith, S.cores, inside_size s t S.inside k lt, offset_suc (core_size s) k, offset_mono (core_size s) (suc k) s.d lt)

    pub core_end_fits : length work * 8 < 2 ^ 63 → Fits w64 (at + size)
    core_end_fits small = record { fits = omega (arith, core_ends) }

    pub core_start_fits : length work * 8 < 2 ^ 63 → Fits w64 (at * 8)
    core_start_fits small = record { fits = omega (arith, core_ends) }

  module _ (point : ℕ) (g : point ≡ offset (point_size s) k) where
    pub points_end : point + points_of s k ≤ length weights
    unfolding point_size
    points_end = omega (arith, S.points, offset_suc (point_size s) k, offset_mono (point_size s) (suc k) s.d lt)

    pub points_end_fits : length weights * 8 < 2 ^ 63 → Fits w64 (point + points_of s k)
    points_end_fits small = record { fits = omega (arith, points_end) }

    pub points_start_fits : length weights * 8 < 2 ^ 63 → Fits w64 (point * 8)
    points_start_fits small = record { fits = omega (arith, points_end) }

module _ (s t : Shape) (k : ℕ) (work weights : List Float) (S : SumsStand s t work weights) (lt : k < s.d) (at size point : ℕ)
    (e : at ≡ offset (core_size s) k) (f : size ≡ core_size t k) (g : point ≡ offset (point_size s) k) where
  abbrev core : List Float
  core = take (at + size - at) (drop at work)

  abbrev w : List Float
  w = take (point + points_of s k - point) (drop point weights)

  core_is : core ≡ (standing s t work k).entries
  unfolding standing slot
  core_is =
      let n : at + size - at ≡ core_size t k = omega arith in
      ap (λ (m : ℕ). take m (drop at work)) n
      ∙ ap (λ (m : ℕ). take (core_size t k) (drop m work)) e
      ∙ sym (take-take (core_size t k) (core_size s k) (drop (offset (core_size s) k) work) (inside_size s t S.inside k lt))

  points_are : w ≡ points_at s weights k
  unfolding points_at slot point_size
  points_are = let n : point + points_of s k - point ≡ points_of s k = omega arith in ap (λ (m : ℕ). take m (drop point weights)) n ∙ ap (λ (m : ℕ). take (points_of s k) (drop m weights)) g

  points_long : length w ≡ points_of t k
  points_long =
      let n : point + points_of s k - point ≡ points_of s k = omega arith in
      let d = length-drop point weights in
      ap (λ (m : ℕ). length (take m (drop point weights))) n
      ∙ length-take-le (points_of s k) (drop point weights) (omega (arith, points_end s t k work weights S lt point g))
      ∙ sym (ap (λ (x : List ℕ). get_or x k 0) S.inside.points)

  core_long : length core ≡ core_size t k
  core_long =
      let n : at + size - at ≡ size = omega arith in
      let d = length-drop at work in
      ap (λ (m : ℕ). length (take m (drop at work))) n ∙ length-take-le size (drop at work) (omega (arith, core_ends s t k work weights S lt at size e f)) ∙ f

  -- what `sum_axis` asks
  pub axis_asks : (eta : ℕ) → most_rank ≤ eta → (left_of t k * (length w * right_of t k) ≤ length core) × (left_of t k ≤ eta) × (right_of t k ≤ eta) × (right_of t k ≤ most_rank) × (1 ≤ left_of t k) × (1 ≤ length w)
  unfolding core_size
  axis_asks eta h =
      let I = S.inside in
      let a = I.axes in
      let l = I.sizes.left k (omega arith) in
      let r = I.sizes.right k (omega arith) in
      let n = I.sizes.axes.points k (omega arith) in
      let q : left_of t k * (length w * right_of t k) ≡ length core = ap (λ (x : ℕ). left_of t k * (x * right_of t k)) points_long ∙ sym (mul_assoc (left_of t k) (points_of t k) (right_of t k)) ∙ sym core_long in
      (le_of_eq q, omega (arith, l.1), omega (arith, r.1), r.1, l.0, omega (arith, n.0, points_long))

  pub axis_made : (eta after : List Float) (r : Stage) → stored (contract (core_with (left_of t k) (length w) (right_of t k) core) w (take (left_of t k) eta)) ≡ staged r (take (right_of t k) after)
      → stored (contract (standing s t work k) (points_at s weights k) (take (left_of t k) eta)) ≡ staged r (take (right_of t k) after)
  axis_made eta after r h =
      ap (λ (x : List Float). stored (contract (standing s t work k) x (take (left_of t k) eta))) (sym points_are)
      ∙ ap (λ (c : Core). stored (contract c w (take (left_of t k) eta))) (sym whole)
      ∙ h
    where
      whole : core_with (left_of t k) (length w) (right_of t k) core ≡ standing s t work k
      whole = ap (λ (m : ℕ). core_with (left_of t k) m (right_of t k) core) points_long ∙ ap (λ (l : List Float). core_with (left_of t k) (points_of t k) (right_of t k) l) core_is ∙ stands s t work k

-- what an axis asks of the sums on its left, and of its own slot
module _ (s t : Shape) (k : ℕ) (work weights : List Float) (S : SumsStand s t work weights) (lt : k < s.d) where
  ahead : k < t.d
  ahead = omega (arith, S.inside.axes)

  pub left_asks : (1 ≤ left_of t k) × (left_of t k ≤ most_rank) × (k ≡ 0 → left_of t k ≡ 1) × (1 ≤ k → left_of t k ≤ right_of s (k - 1))
  left_asks = ((S.inside.sizes.left k ahead).0, (S.inside.sizes.left k ahead).1, λ e. ap (left_of t) e ∙ S.inside.first, λ l. joined l)
    where
      joined : 1 ≤ k → left_of t k ≤ right_of s (k - 1)
      joined l =
          let e : suc (k - 1) ≡ k = omega arith in
          let j = S.inside.joins (k - 1) (omega arith) in
          let q : left_of t (suc (k - 1)) ≡ left_of t k = ap (left_of t) e in
          omega (arith, S.inside.right (k - 1) (omega arith))

  pub own_asks : (right_of t k ≤ most_rank) × (right_of t k ≤ right_of s k)
  own_asks = ((S.inside.sizes.right k ahead).1, S.inside.right k lt)

pub ruleset left_slots = (left_first, left_end, left_end_fits, left_start_fits, left_long_lem, left_held_lem, span_length)

pub ruleset axis_slots = (core_ends, core_end_fits, core_start_fits, points_end, points_end_fits, points_start_fits, axis_asks, axis_made)

pub ruleset own_slot = (slot_ends, slot_end_fits, slot_start_fits, slot_lent, slot_kept)
