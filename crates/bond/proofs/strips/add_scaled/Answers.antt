use Rattle.lists.proofs.Turns.{turns}
use Rattle.lists.specs.Strips.{added_in}
use Rattle.bond.proofs.strips.add_scaled.Goals as goal

pub loop-t-init : goal.loop-t-init
unfolding added_in
loop-t-init c = search turns

pub loop-t-preserved : goal.loop-t-preserved
unfolding added_in
loop-t-preserved c = search turns
