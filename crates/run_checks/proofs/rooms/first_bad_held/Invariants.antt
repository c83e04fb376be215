-- `run_checks::rooms::first_bad_held`: the invariant: all zones before k passed; the first that does not is found (passing).
use Rattle.lists.proofs.Demands.{Passed}
use Rattle.runform.specs.Slices.{outputs}
use Rattle.runform.specs.Checks.{held_finite}
use Rattle.run_checks.proofs.rooms.first_bad_held.Given as goal

abbrev pub invariant-loop-k : goal.invariant-loop-k
invariant-loop-k l = Passed (held_finite l.s l.bonds (outputs l.chain l.carries l.sums)) l.s.d l.k
