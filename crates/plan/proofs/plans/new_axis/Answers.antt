-- `plan::plans::new_axis`: the answer is made of what `replace_axis` leaves.
use mathlib.Core.Path.{ap}
use Rattle.plan.specs.Answers.{answer_of}
use Rattle.plan.proofs.plans.new_axis.Goals as goal

pub returns : goal.returns
unfolding answer_of
returns c = ap answer_of c.replace_axis-a.ensures
