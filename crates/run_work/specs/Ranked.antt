-- The shape that the chain of a run has by its kept ranks. Definitions for code only.
use Rattle.std.specs.Prelude.{◌≡◌, ℕ, ◌<◌, List, length}
use Rattle.shape.specs.declared.Shape.{Shape}
use Rattle.shape.specs.Limits.{most_axes}
use Rattle.shape.specs.Shapes.{left_of, right_of}
use Rattle.cutform.specs.declared.Bond.{Bond}
use Rattle.runform.specs.Kept.{left_held, right_held}

-- the first m cores of t have the kept ranks, and t is else as s
pub record Ranked (s : Shape) (bonds : List Bond) (t : Shape) (m : ℕ) : Type 0 where
  pub axes : t.d ≡ s.d
  pub points : t.n ≡ s.n
  pub left : (k : ℕ) → k < m → left_of t k ≡ left_held bonds k
  pub right : (k : ℕ) → k < m → right_of t k ≡ right_held s bonds k
  pub lefts : length t.left ≡ most_axes
  pub rights : length t.right ≡ most_axes
