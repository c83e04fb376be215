-- `evolution::step`: the records are gathered, and over them `step_over` answers what is promised of those lent (step_over_lem).
use Rattle.std.proofs.Common.{◌∙◌, ap, List, length}
use Rattle.stepform.specs.declared.Axis.{Axis}
use Rattle.stepform.specs.Call.{step_over}
use Rattle.steps.proofs.Gathers.{step_over_lem}
use Rattle.evolution.proofs.Calls.{ends_as}
use Rattle.evolution.proofs.step.Goals as goal

pub returns : goal.returns
returns c =
    ends_as _ _
    (ap (λ (ys : List Axis). step_over c.args.set c.args.s (length c.args.xs.now) ys c.args.chain.now c.args.scratch.now) c.gather.ensures
    ∙ step_over_lem c.args.set c.args.s c.args.xs.now c.args.chain.now c.args.scratch.now)
    _ _ _ c.step_over.ensures
