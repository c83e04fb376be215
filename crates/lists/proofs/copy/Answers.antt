use mathlib.Core.Path.{◌∙◌}
use lib.ListN.{length-set}
use Rattle.lists.proofs.Over.{over_more, over_all}
use Rattle.lists.proofs.copy.Goals as goal

pub loop-i-preserved : goal.loop-i-preserved
loop-i-preserved c = (
  simp length-set c.loop-i.invariant.0,
  rw c.loop-i.invariant.1 (over_more _ _ _ _ c.requires c.loop-i-test.true),
)

pub returns : goal.returns
returns c = c.loop-i.invariant.1 ∙ over_all _ _ _ c.requires c.loop-i-test.false
