-- `evolution::evolve`: the records are gathered, and over them `evolve_over` answers what is promised of those lent (evolve_over_lem).
use Rattle.std.proofs.Common.{◌∙◌, ap, List, length}
use Rattle.stepform.specs.declared.Axis.{Axis}
use Rattle.stepform.specs.Call.{evolve_over}
use Rattle.steps.proofs.Gathers.{evolve_over_lem}
use Rattle.evolution.proofs.Calls.{ends_as}
use Rattle.evolution.proofs.evolve.Goals as goal

pub returns : goal.returns
returns c =
    let p = c.args.p in
    ends_as _ _
    (ap (λ (ys : List Axis). evolve_over p.t_final p.steps p.c p.cutting c.args.s (length c.args.xs.now) ys c.args.chain.now c.args.scratch.now) c.gather.ensures
    ∙ evolve_over_lem p.t_final p.steps p.c p.cutting c.args.s c.args.xs.now c.args.chain.now c.args.scratch.now)
    _ _ _ c.evolve_over.ensures
