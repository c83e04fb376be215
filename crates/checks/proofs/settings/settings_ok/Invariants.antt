-- `checks::settings::settings_ok`: the invariant: all axes before k reach.
use Rattle.lists.proofs.Demands.{Passed}
use Rattle.stepform.specs.Call.{axis_reaches}
use Rattle.checks.proofs.settings.settings_ok.Given as goal

abbrev pub invariant-loop-k : goal.invariant-loop-k
invariant-loop-k l = Passed (axis_reaches l.set l.s l.xs) l.s.d l.k
