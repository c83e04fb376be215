-- `steps::steps_in`: the invariant (Going): what is left of all steps is those to come, from the chain that stands now; a step that is refused ends them (going_stops), or none is left (going_ends).
use Prim.Native.Nat.{◌-◌}
use Rattle.steps.proofs.Evolves.{Going}
use Rattle.lists.specs.Lists.{tab}
use Rattle.shape.specs.Cores.{standing}
use Rattle.stepform.specs.Steps.{steps_of}
use Rattle.steps.proofs.steps_in.Given as goal

abbrev pub invariant-loop : goal.invariant-loop
invariant-loop l = Going l.set l.s l.xs (steps_of l.m l.set l.xs (tab l.s.d (standing l.s l.s l.initial.work))) (l.m - l.counter) l.t l.said l.work
