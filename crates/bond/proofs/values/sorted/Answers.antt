use native.Mathlib.Omega.{arith}
use native.Mathlib.Numerals.{add-one}
use Rattle.cutform.proofs.Ranked.{order_lt, sorted_is}
use Rattle.bond.proofs.values.sorted.Goals as goal

pub offset_bounds-sv-i : goal.offset_bounds-sv-i
offset_bounds-sv-i c = record { fits = omega (arith, order_lt _ _ c.requires.0 c.requires.3 _ c.requires.4 _ c.loop-r-test.true) }

pub bounds-sv-i : goal.bounds-sv-i
bounds-sv-i c = omega (arith, order_lt _ _ c.requires.0 c.requires.3 _ c.requires.4 _ c.loop-r-test.true)

pub loop-r-preserved : goal.loop-r-preserved
loop-r-preserved c = rw (add-one, c.loop-r.invariant)

pub returns : goal.returns
returns c = sorted_is _ _ c.requires.0 c.requires.3 _ c.requires.4 _ _ _ c.loop-r.invariant c.loop-r.auto.r-end c.loop-r-test.false c.requires.2
