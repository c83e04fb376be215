use Rattle.passes.proofs.Rotated.{passes_start, passes_quiet, passes_more, passes_done}
use Rattle.passes.proofs.Spun.{now_held, pass_staged, held_beside}
use Rattle.passes.proofs.quick_passes.Goals as goal

pub loop-count-init : goal.loop-count-init
loop-count-init c = record { held = c.requires; left = passes_start _ _ _ }

pub returns-then-quiet : goal.returns-then-quiet
returns-then-quiet c = (passes_quiet _ _ _ _ _ _ _ c.loop-count.invariant.left c.loop-count-test.true c.if-quiet.true, c.loop-count.invariant.held.kept)

pub pass-quiet-requires : goal.pass-quiet-requires
pass-quiet-requires c = held_beside _ _ _ _ _ c.loop-count.invariant.held

pub loop-count-preserved : goal.loop-count-preserved
loop-count-preserved c = let fine = c.both_finite.ensures c.if-not-both_finite.false in record {
  held = now_held _ _ c.loop-count.a c.loop-count.v c.loop-count.ss _ _ _ c.pass-quiet.ensures.1 fine.0 fine.1;
  left = passes_more _ _ _ _ _ _ _ c.loop-count.invariant.left c.loop-count-test.true c.if-quiet.false _
      (pass_staged _ _ _ _ _ _ _ _ c.pass-quiet.ensures.1 fine.0 fine.1 c.loop-count.invariant.held _ c.pass-quiet.ensures.0);
}

pub returns : goal.returns
returns c = (passes_done _ _ _ _ _ _ _ c.loop-count.invariant.left c.loop-count.auto.count-end c.loop-count-test.false, c.loop-count.invariant.held.kept)
