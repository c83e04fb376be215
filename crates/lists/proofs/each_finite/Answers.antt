use Rattle.lists.proofs.Turns.{turns}
use Rattle.lists.proofs.Seen.{flags}
use Rattle.lists.proofs.each_finite.Goals as goal

pub loop-x-preserved : goal.loop-x-preserved
loop-x-preserved c = search (turns, flags)

pub returns : goal.returns
returns c = search (turns, flags)
