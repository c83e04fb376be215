-- What offsets ask of a shape: d and the sizes within their limits. Definitions only.
use Rattle.std.specs.Prelude.{◌≡◌, ℕ, suc, ◌≤◌, ◌<◌}
use Rattle.shape.specs.declared.Shape.{Shape}
use Rattle.shape.specs.Limits.{most_axes, most_points, most_rank}
use Rattle.shape.specs.Shapes.{left_of, points_of, right_of}

-- d and the points of each axis, which is all that weights and vectors ask
pub record PointsWithin (s : Shape) : Type 0 where
  pub least : 1 ≤ s.d
  pub most : s.d ≤ most_axes
  pub points : (k : ℕ) → k < s.d → (1 ≤ points_of s k) × (points_of s k ≤ most_points)

-- and both ranks of each core
pub record SizesWithin (s : Shape) : Type 0 where
  pub axes : PointsWithin s
  pub left : (k : ℕ) → k < s.d → (1 ≤ left_of s k) × (left_of s k ≤ most_rank)
  pub right : (k : ℕ) → k < s.d → (1 ≤ right_of s k) × (right_of s k ≤ most_rank)

-- a chain of shape t stands where the cores of shape s begin: the same axes, ranks that meet, none above its source's
pub record Inside (s t : Shape) : Type 0 where
  pub sizes : SizesWithin t
  pub axes : t.d ≡ s.d
  pub points : t.n ≡ s.n
  pub left : (k : ℕ) → k < s.d → left_of t k ≤ left_of s k
  pub right : (k : ℕ) → k < s.d → right_of t k ≤ right_of s k
  pub joins : (k : ℕ) → suc k < s.d → right_of t k ≡ left_of t (suc k)
  pub first : left_of t 0 ≡ 1
  pub last : (k : ℕ) → suc k ≡ s.d → right_of t k ≡ 1
