-- `bond::sweeps::pair_slope`: the slope of three entries, read one after the other.

use Rattle.bond.proofs.sweeps.pair_slope.Goals as goal

pub returns : goal.returns
returns c = rw (c.slope.ensures, c.number_at-off.ensures, c.number_at-high.ensures, c.number_at-low.ensures)
