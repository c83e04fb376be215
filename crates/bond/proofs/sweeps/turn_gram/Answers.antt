-- `bond::sweeps::turn_gram`: columns turned, rows turned, then the pair cleared: the definition, step by step.

use Rattle.bond.proofs.sweeps.turn_gram.Goals as goal

pub returns : goal.returns
returns c = rw (c.clear.ensures, c.turn_rows.ensures, c.turn_columns.ensures)
