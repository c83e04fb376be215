-- `passes::plan_at`: the sums of squares that are kept are those of the columns (planned_at).
use Rattle.passes.proofs.Spun.{planned_at}
use Rattle.passes.proofs.plan_at.Goals as goal

pub returns : goal.returns
returns c = planned_at _ _ _ _ _ _ _ _ c.requires.0 c.requires.1 c.requires.2 c.dot.ensures c.planned.ensures
