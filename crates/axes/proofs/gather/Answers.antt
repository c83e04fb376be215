-- `axes::gather`: a turn sets one more (filled_more), and after the last the list is the records' (filled_all).
use mathlib.Core.Path.{◌∙◌}
use Rattle.axes.proofs.Gathered.{filled_more, filled_all}
use Rattle.axes.proofs.gather.Goals as goal

pub loop-k-preserved : goal.loop-k-preserved
loop-k-preserved c = rw (filled_more, c.axis_at.ensures, c.loop-k.invariant)

pub returns : goal.returns
returns c = c.loop-k.invariant ∙ filled_all c.args.xs.now c.loop-k.k c.loop-k.auto.k-end c.loop-k-test.false
