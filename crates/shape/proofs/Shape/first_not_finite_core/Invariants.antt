-- `shape::Shape::first_not_finite_core`: the invariant: core k starts at `start`, and all cores before it are finite (slotwise, passing).
use Prim.Native.Nat.{ℕ}
use mathlib.Core.Path.{◌≡◌}
use Rattle.lists.specs.Slots.{offset}
use Rattle.lists.specs.Floats.{all_finite}
use Rattle.lists.proofs.Demands.{Passed}
use Rattle.shape.specs.Shapes.{core_size}
use Rattle.shape.specs.Cores.{core_at}
use Rattle.shape.proofs.Shape.first_not_finite_core.Given as goal

abbrev pub invariant-loop-k : goal.invariant-loop-k
invariant-loop-k l = (l.start ≡ offset (core_size l.self) l.k) × Passed (λ (j : ℕ). all_finite (core_at l.self l.chain j).entries) l.self.d l.k
