-- `run_checks::rooms::reaches_ok`: the invariant: the shifts from z on are told by those from k on (reach_more).
use mathlib.Core.Path.{◌≡◌}
use Prim.Native.Nat.{◌-◌}
use Rattle.answers.specs.declared.Refusal.TheVariants.{Reach}
use Rattle.answers.specs.Outcome.{demand_each}
use Rattle.stepform.specs.Call.{axis_reaches}
use Rattle.run_checks.proofs.rooms.reaches_ok.Given as goal

abbrev pub invariant-loop-k : goal.invariant-loop-k
invariant-loop-k l = demand_each Reach (axis_reaches l.set l.s l.xs) (l.s.d - l.z) l.z ≡ demand_each Reach (axis_reaches l.set l.s l.xs) (l.s.d - l.k) l.k
