-- What `no_bond` answers stands at every place.
use lib.Ieee.{of_bits}
use Rattle.runs.proofs.blank_run.Goals as goal

pub returns : goal.returns
unfolding of_bits
returns c = rw c.no_bond-none.ensures
