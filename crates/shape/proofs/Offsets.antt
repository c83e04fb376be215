-- Offsets: a turn more of the loop that counts them, and that they are small, by the limits. Assumes nothing.
use mathlib.Core.Path.{◌≡◌, refl}
use Prim.Native.Nat.{ℕ, zero, suc, ◌+◌, ◌*◌, ◌≤◌, ◌<◌, zero-le}
use native.Mathlib.Nat.{mul-le-mul, le_antisymm, le_refl}
use native.Mathlib.Numerals.{add-one}
use native.Mathlib.Omega.{arith}
use mir.Syntax.{w64}
use mir.Val.{Fits}
use Rattle.lists.specs.Slots.{offset}
use Rattle.shape.specs.declared.Shape.{Shape}
use Rattle.shape.specs.Limits.{most_points, most_rank, most_core, most_entries, most_weights}
use Rattle.shape.specs.Shapes.{left_of, points_of, right_of, core_size, point_size, entries_of, all_points}
use Rattle.shape.specs.Sizes.{PointsWithin, SizesWithin}

-- ---- the loop that counts them
module _ (size : ℕ → ℕ) where
  pub offset_none : 0 ≡ offset size 0
  unfolding offset
  offset_none = refl

  pub offset_more : (k t x : ℕ) → t ≡ offset size k → x ≡ size k → t + x ≡ offset size (k + 1)
  unfolding offset
  offset_more k t x e d = rw (e, d, add-one)

  pub offset_done : (j k t : ℕ) → t ≡ offset size j → j ≤ k → k ≤ j → t ≡ offset size k
  offset_done j k t e p q = rw (le_antisymm q p) e

  pub offset_same : (other : ℕ → ℕ) (k : ℕ) → ((j : ℕ) → j < k → size j ≡ other j) → offset size k ≡ offset other k
  unfolding offset
  offset_same other zero h = refl
  offset_same other (suc k) h = cc (offset_same other k (λ j l. h j (omega arith)), h k (le_refl (suc k)))

  -- sizes of at most m
  pub offset_most : (m k : ℕ) → ((j : ℕ) → j < k → size j ≤ m) → offset size k ≤ k * m
  unfolding offset
  offset_most m zero h = zero-le
  offset_most m (suc k) h = omega (arith, offset_most m k (λ j l. h j (omega arith)), h k (le_refl (suc k)))

-- ---- how large a core and a chain can be, and that all of it fits a machine word
module _ (s : Shape) (w : SizesWithin s) where
  module _ (k : ℕ) (l : k < s.d) where
    rows_most : left_of s k * points_of s k ≤ most_rank * most_points
    rows_most = mul-le-mul (w.left k l).1 (w.axes.points k l).1

    pub core_most : core_size s k ≤ most_core
    unfolding core_size
    core_most = mul-le-mul rows_most (w.right k l).1

    pub rows_fit : Fits w64 (left_of s k * points_of s k)
    rows_fit = record { fits = omega (arith, rows_most) }

    pub core_fits : Fits w64 (left_of s k * points_of s k * right_of s k)
    unfolding core_size
    core_fits = record { fits = omega (arith, core_most) }

  pub core_offset_most : (k : ℕ) → k ≤ s.d → offset (core_size s) k ≤ most_entries
  core_offset_most k l = omega (arith, offset_most (core_size s) most_core k (λ j m. core_most j (omega arith)), w.axes.most)

  pub entries_most : entries_of s ≤ most_entries
  entries_most = core_offset_most s.d (le_refl s.d)

  pub core_offset_fits : (k m t x : ℕ) → k < m → m ≤ s.d → t ≡ offset (core_size s) k → x ≡ core_size s k → Fits w64 (t + x)
  core_offset_fits k m t x l le e d = record { fits = omega (arith, core_offset_most (k + 1) (omega arith), offset_more (core_size s) k t x e d) }

module _ (s : Shape) (w : PointsWithin s) where
  pub points_offset_most : (k : ℕ) → k ≤ s.d → offset (point_size s) k ≤ most_weights
  unfolding point_size
  points_offset_most k l = omega (arith, offset_most (point_size s) most_points k (λ j m. (w.points j (omega arith)).1), w.most)

  pub all_points_most : all_points s ≤ most_weights
  all_points_most = points_offset_most s.d (le_refl s.d)

  pub points_offset_fits : (k m t x : ℕ) → k < m → m ≤ s.d → t ≡ offset (point_size s) k → x ≡ point_size s k → Fits w64 (t + x)
  points_offset_fits k m t x l le e d = record { fits = omega (arith, points_offset_most (k + 1) (omega arith), offset_more (point_size s) k t x e d) }

pub ruleset offsets = (offset_none, offset_more, offset_done, rows_fit, core_fits, core_offset_fits, points_offset_fits)
