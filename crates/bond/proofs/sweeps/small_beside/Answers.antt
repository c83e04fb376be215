-- `bond::sweeps::small_beside`: the code is the definition, unfolded.
use mathlib.Core.Path.{refl}
use Rattle.cutform.specs.Modes.{small_beside}
use Rattle.bond.proofs.sweeps.small_beside.Goals as goal

pub returns : goal.returns
unfolding small_beside
returns c = refl
