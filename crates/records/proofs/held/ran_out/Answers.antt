-- `records::held::ran_out`: refusal and run by their own functions, put together (ran_as).
use Rattle.records.proofs.Runs.{ran_as}
use Rattle.records.proofs.held.ran_out.Goals as goal

pub returns : goal.returns
returns c = ran_as c.args.w _ _ c.refusal_of.ensures c.into.ensures
