use lib.Ieee.{nan}
use Rattle.numbers.specs.Root.{root_of}
use Rattle.lists.proofs.Over.{maps_more}
use Rattle.pair.proofs.parts.roots.Goals as goal

pub loop-x-preserved : goal.loop-x-preserved
loop-x-preserved c = maps_more root_of c.args.s.now nan c.loop-x.x-index c.loop-x.s _ c.loop-x.invariant c.loop-x-test.true c.root.ensures
