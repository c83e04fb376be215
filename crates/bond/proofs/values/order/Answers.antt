use native.Mathlib.Omega.{arith}
use native.Mathlib.Numerals.{add-one}
use Rattle.cutform.proofs.Ranked.{rank_lt, order_is}
use Rattle.bond.proofs.values.order.Goals as goal

pub offset_bounds-js-place : goal.offset_bounds-js-place
offset_bounds-js-place c = record { fits = omega (arith, c.place_of-place.ensures, rank_lt _ _ c.requires.0 c.requires.2 _ c.loop-i-test.true) }

pub bounds-js-place : goal.bounds-js-place
bounds-js-place c = omega (arith, c.place_of-place.ensures, rank_lt _ _ c.requires.0 c.requires.2 _ c.loop-i-test.true)

pub loop-i-preserved : goal.loop-i-preserved
loop-i-preserved c = rw (add-one, c.place_of-place.ensures, c.loop-i.invariant)

pub returns : goal.returns
returns c = order_is _ _ c.requires.0 c.requires.2 _ _ _ c.loop-i.invariant c.loop-i.auto.i-end c.loop-i-test.false c.requires.1
