-- `shape::Shape::first_not_finite_axis`: the invariant: axis k starts at `start`, and all axes before it are finite (slotwise, passing).
use Prim.Native.Nat.{ℕ}
use mathlib.Core.Path.{◌≡◌}
use Rattle.lists.specs.Slots.{offset}
use Rattle.lists.specs.Floats.{all_finite}
use Rattle.lists.proofs.Demands.{Passed}
use Rattle.shape.specs.Shapes.{point_size}
use Rattle.shape.specs.Cores.{points_at}
use Rattle.shape.proofs.Shape.first_not_finite_axis.Given as goal

abbrev pub invariant-loop-k : goal.invariant-loop-k
invariant-loop-k l = (l.start ≡ offset (point_size l.self) l.k) × Passed (λ (j : ℕ). all_finite (points_at l.self l.points j)) l.self.d l.k
