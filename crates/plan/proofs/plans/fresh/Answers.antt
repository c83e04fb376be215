-- `plan::plans::fresh`: the answer is made of what `fresh_run` leaves.
use mathlib.Core.Path.{ap}
use Rattle.plan.specs.Answers.{answer_of}
use Rattle.plan.proofs.plans.fresh.Goals as goal

pub returns : goal.returns
unfolding answer_of
returns c = ap answer_of c.fresh_run-a.ensures
