-- `bond::sweeps::clear`: two entries set to zero: the definition.
use Rattle.cutform.specs.Sweeps.{cleared}
use Rattle.bond.proofs.sweeps.clear.Goals as goal

pub returns : goal.returns
unfolding cleared
returns c = rw (c.put-2.ensures, c.put.ensures)
