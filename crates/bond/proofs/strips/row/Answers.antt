use Rattle.std.proofs.Common.{rules, arith, zero-le}
use Rattle.lists.proofs.Turns.{turns}
use Rattle.lists.proofs.Strips.{row_more, row_whole}
use Rattle.bond.proofs.StripProducts.{row_met}
use Rattle.bond.proofs.strips.row.Goals as goal
use Rattle.bond.proofs.strips.row.Goals.{else-loop-j-test, then-loop-j-test+else-wide-j-gt8, else-loop-j-2-test, then-loop-j-2-test+else-even-j-gt4}

pub loop-j-init : goal.loop-j-init
loop-j-init c = record { whole = omega arith; within = zero-le; stored = search turns }

pub strip-requires : goal.strip-requires
strip-requires c = omega (arith, c.loop-j.invariant.whole, c.loop-j.invariant.within)

pub loop-j-preserved : goal.loop-j-preserved
loop-j-preserved c = record {
  whole = omega (arith, c.loop-j.invariant.whole);
  within = omega (arith, c.loop-j.invariant.whole, c.loop-j.invariant.within);
  stored = row_more _ _ _ _ _ _ _ 8 c.loop-j.invariant.stored zero-le c.strip.ensures;
}

pub loop-j-2-init : goal.loop-j-2-init
loop-j-2-init c =
    let o = c.loop-j.invariant in
    record {
      whole = omega arith;
      within = omega arith;
      stored = elim c.loop-j-test.branch [
        | else-loop-j-test w ↦ rw w.out-is (row_met _ _ _ _ _ _ o.stored (omega (arith, o.whole, o.within)))
        | then-loop-j-test+else-wide-j-gt8 w ↦ rw w.out-is (row_met _ _ _ _ _ _ (row_more _ _ _ _ _ _ _ 8 o.stored zero-le w.strip.ensures) (omega (arith, o.whole, o.within)))
      ];
    }

pub strip-requires-in-loop-j-2 : goal.strip-requires-in-loop-j-2
strip-requires-in-loop-j-2 c = omega (arith, c.loop-j-2.invariant.whole, c.loop-j-2.invariant.within)

pub loop-j-2-preserved : goal.loop-j-2-preserved
loop-j-2-preserved c = record {
  whole = omega (arith, c.loop-j-2.invariant.whole);
  within = omega (arith, c.loop-j-2.invariant.whole, c.loop-j-2.invariant.within);
  stored = row_more _ _ _ _ _ _ _ 4 c.loop-j-2.invariant.stored zero-le c.strip-in-loop-j-2.ensures;
}

pub loop-j-3-init : goal.loop-j-3-init
loop-j-3-init c =
    let o = c.loop-j-2.invariant in
    elim c.loop-j-2-test.branch [
      | else-loop-j-2-test w ↦ rw w.out-is (row_met _ _ _ _ _ _ o.stored (omega (arith, o.whole, o.within)))
      | then-loop-j-2-test+else-even-j-gt4 w ↦ rw w.out-is (row_met _ _ _ _ _ _ (row_more _ _ _ _ _ _ _ 4 o.stored zero-le w.strip-in-loop-j-2.ensures) (omega (arith, o.whole, o.within)))
    ]

pub loop-j-3-preserved : goal.loop-j-3-preserved
loop-j-3-preserved c = row_more _ _ _ _ _ _ _ 1 c.loop-j-3.invariant zero-le c.strip-in-loop-j-3.ensures

pub returns : goal.returns
returns c = row_whole _ _ _ _ _ _ c.loop-j-3.invariant (search rules) c.loop-j-3-test.false
