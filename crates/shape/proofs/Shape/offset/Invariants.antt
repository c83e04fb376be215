-- `shape::Shape::offset`: the invariant: the total is where core j starts (offsets).
use mathlib.Core.Path.{◌≡◌}
use Rattle.lists.specs.Slots.{offset}
use Rattle.shape.specs.Shapes.{core_size}
use Rattle.shape.proofs.Shape.offset.Given as goal

abbrev pub invariant-loop-j : goal.invariant-loop-j
invariant-loop-j l = l.total ≡ offset (core_size l.self) l.j
