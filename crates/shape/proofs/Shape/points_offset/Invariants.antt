-- `shape::Shape::points_offset`: the invariant: the total is where axis j starts (offsets).
use mathlib.Core.Path.{◌≡◌}
use Rattle.lists.specs.Slots.{offset}
use Rattle.shape.specs.Shapes.{point_size}
use Rattle.shape.proofs.Shape.points_offset.Given as goal

abbrev pub invariant-loop-j : goal.invariant-loop-j
invariant-loop-j l = l.total ≡ offset (point_size l.self) l.j
