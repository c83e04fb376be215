use Rattle.std.proofs.Common.{refl, arith}
use Rattle.lists.specs.Strips.{added_in}
use Rattle.lists.proofs.Turns.{turns}
use Rattle.lists.proofs.Eighths.{eighths_none, eighths_more}
use Rattle.lists.proofs.eight_sums.Goals as goal

pub loop-j-init : goal.loop-j-init
loop-j-init c = eighths_none c.args.s.now

pub loop-c-init : goal.loop-c-init
unfolding added_in
loop-c-init c = refl

pub loop-c-preserved : goal.loop-c-preserved
unfolding added_in
loop-c-preserved c = search turns

pub loop-j-preserved : goal.loop-j-preserved
loop-j-preserved c = eighths_more c.args.s.now c.loop-j.j c.loop-c.c c.loop-j.sums c.loop-c.sums c.loop-j.invariant c.loop-c.invariant (omega arith)
