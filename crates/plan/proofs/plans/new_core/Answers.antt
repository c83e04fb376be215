-- `plan::plans::new_core`: the answer is made of what `replace_core` leaves.
use mathlib.Core.Path.{ap}
use Rattle.plan.specs.Answers.{answer_of}
use Rattle.plan.proofs.plans.new_core.Goals as goal

pub returns : goal.returns
unfolding answer_of
returns c = ap answer_of c.replace_core-a.ensures
