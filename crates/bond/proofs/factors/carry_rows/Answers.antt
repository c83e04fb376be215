use Rattle.bond.specs.FactorRows.{carry_rows}
use Rattle.lists.proofs.Strips.{rows_whole}
use Rattle.bond.proofs.factors.carry_rows.Goals as goal

pub returns : goal.returns
unfolding carry_rows
returns c = rows_whole _ _ _ _ _ _ c.loop-i.invariant c.loop-i.auto.i-end c.loop-i-test.false c.requires.2
