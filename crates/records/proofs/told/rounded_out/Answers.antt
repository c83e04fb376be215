-- The answer is made part by part (rounded_as). Assumes nothing.
use Rattle.records.proofs.Refusals.{rounded_as}
use Rattle.records.proofs.told.rounded_out.Goals as goal

pub returns : goal.returns
returns c = rounded_as _ _ _ _ _ _ c.refusal_of.ensures c.into.ensures c.bonds_out.ensures
