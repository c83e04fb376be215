-- `cuts::zone::absorbed`: `out` has just the product's length, so it is the product, and is looked at as a stage (absorbed_is).
use Rattle.cuts.proofs.Zoned.{absorbed_is}
use Rattle.cuts.proofs.zone.absorbed.Goals as goal

pub returns : goal.returns
returns c = absorbed_is _ _ _ _ _ c.absorb.ensures c.requires.3 c.stored.ensures
