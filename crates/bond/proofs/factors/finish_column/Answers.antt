-- `bond::factors::finish_column`: a column is divided by its value (finish_divided) or, where that is no divisor, cleared (finish_cleared).
use Rattle.bond.proofs.Finished.{finish_divided, finish_cleared}
use Rattle.bond.proofs.factors.finish_column.Goals as goal

pub returns-then-divided : goal.returns-then-divided
returns-then-divided c = finish_divided _ _ _ _ _ _ _ _ c.divided.ensures c.if-divided.true c.divide_column.ensures

pub returns : goal.returns
returns c = finish_cleared _ _ _ _ _ _ _ _ c.divided.ensures c.if-divided.false c.clear_column.ensures
