use mathlib.Core.Path.{refl}
use Rattle.std.proofs.Common.{rules}
use Rattle.lists.proofs.Over.{tabs_more}
use Rattle.stepform.specs.Axes.{axis_at, blanks}
use Rattle.records.specs.Given.{lent_of}
use Rattle.records.proofs.Lent.{lent_done}
use Rattle.records.proofs.given.CAxes.lent.Goals as goal

pub loop-k-init : goal.loop-k-init
loop-k-init c = refl

pub loop-k-preserved : goal.loop-k-preserved
loop-k-preserved c = tabs_more (axis_at (lent_of c.args.count c.args.self.now.axis)) blanks c.loop-k.k _ _ c.loop-k.invariant (search rules) c.lent_at.ensures

pub returns : goal.returns
returns c = lent_done c.args.count c.args.self.now.axis blanks _ c.loop-k.k c.loop-k.invariant (search rules) (search rules)
