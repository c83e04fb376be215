-- `run_work::kept::kept_shape`: the cores before k have their kept ranks.
use Rattle.run_work.specs.Ranked.{Ranked}
use Rattle.run_work.proofs.kept.kept_shape.Given as goal

abbrev pub invariant-loop-k : goal.invariant-loop-k
invariant-loop-k l = Ranked l.s l.bonds l.t l.k
