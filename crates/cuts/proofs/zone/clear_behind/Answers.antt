-- `cuts::zone::clear_behind`: the used front, then zeros: a list made to fit (cleared).
use mathlib.Core.Path.{refl}
use Rattle.cuts.proofs.Zoned.{cleared}
use Rattle.cuts.proofs.zone.clear_behind.Goals as goal

pub returns : goal.returns
returns c = cleared _ _ _ _ c.requires refl c.fill.ensures
