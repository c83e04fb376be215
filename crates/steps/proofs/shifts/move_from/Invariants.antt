-- `steps::shifts::move_from`: the invariant: the zones from z to k are shifted (Shifting); one that is not finite stops it (moving_stop), and after the last all are scaled (moving_done).
use mathlib.Core.Path.{◌≡◌}
use Rattle.steps.proofs.Passes.{Shifting}
use lib.ListN.{length}
use Rattle.steps.proofs.shifts.move_from.Given as goal

abbrev pub invariant-loop-k : goal.invariant-loop-k
invariant-loop-k l = Shifting l.s l.t l.set l.xs l.z l.initial.work l.k l.work × (length l.room ≡ length l.initial.room) × (length l.block ≡ length l.initial.block)
