-- `bond::sweeps::turn_columns`: two columns are pairs n apart (turn_columns_is).
use Rattle.bond.proofs.Rotations.{turn_columns_is}
use Rattle.bond.proofs.sweeps.turn_columns.Goals as goal

pub returns : goal.returns
returns c = turn_columns_is _ _ _ _ _ _ _ c.requires.0 c.requires.1 c.requires.2 c.turn_pairs.ensures
