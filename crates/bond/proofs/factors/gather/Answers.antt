use Rattle.bond.specs.FactorRows.{gathered}
use Rattle.lists.proofs.Strips.{rows_whole}
use Rattle.bond.proofs.factors.gather.Goals as goal

pub returns : goal.returns
unfolding gathered
returns c = rows_whole _ _ _ _ _ _ c.loop-k.invariant c.loop-k.auto.k-end c.loop-k-test.false c.requires.3
