use native.Mathlib.Omega.{arith}
use Rattle.listing.proofs.Grows.{axes_none, axes_more, axes_done}
use Rattle.listing.proofs.put_axes.Goals as goal

pub loop-k-init : goal.loop-k-init
loop-k-init c = axes_none _ _ _ (omega (arith, c.requires.room))

pub loop-k-preserved : goal.loop-k-preserved
loop-k-preserved c = axes_more _ _ _ _ _ _ _ c.loop-k.invariant (omega (arith, c.requires.room)) c.loop-k-test.true c.core_size.ensures c.put_axis-end.auto.text c.put_axis-end.ensures

pub returns : goal.returns
returns c = axes_done _ _ _ _ _ _ _ c.loop-k.invariant c.loop-k-test.false c.requires.sizes_within.axes.most
