use Rattle.lists.proofs.Tables.{fill_all}
use Rattle.columns.specs.Loops.{squares}
use Rattle.columns.proofs.square.Goals as goal

pub returns : goal.returns
unfolding squares
returns c = fill_all _ _ _ _ _ c.loop-col.invariant c.loop-col.auto.col-end c.loop-col-test.false c.requires.1
