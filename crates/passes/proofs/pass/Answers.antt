use native.Mathlib.Omega.{arith}
use mathlib.Core.Path.{refl}
use mathlib.Core.Bool.{true}
use Rattle.pairform.specs.Passes.{svd, passed}
use Rattle.lists.proofs.Turns.{turns, iter_more, iter_done}
use Rattle.passes.specs.Free.{row_free, pass_free}
use Rattle.passes.proofs.InStep.{iter_two}
use Rattle.passes.proofs.pass.Goals as goal

pub loop-p-init : goal.loop-p-init
loop-p-init c = record { bound = search turns; beside = c.requires; rows = refl }

pub two_rows-quiet-requires : goal.two_rows-quiet-requires
two_rows-quiet-requires c = (c.loop-p.invariant.beside, c.loop-p-test.true)

pub loop-p-preserved : goal.loop-p-preserved
loop-p-preserved c = record {
  bound = omega (arith, c.loop-p-test.true);
  beside = c.two_rows-quiet.ensures.beside;
  rows = iter_two (row_free c.args.m c.args.n) (passed (svd c.args.a.now c.args.v.now) true) c.loop-p.p _ _ c.loop-p.invariant.rows c.two_rows-quiet.ensures.result_after;
}

pub loop-last-init : goal.loop-last-init
loop-last-init c = record { beside = c.loop-p.invariant.beside; rows = c.loop-p.invariant.rows }

pub row-quiet-requires : goal.row-quiet-requires
row-quiet-requires c = (c.loop-last.invariant.beside, c.loop-last-test.true)

pub loop-last-preserved : goal.loop-last-preserved
loop-last-preserved c = record {
  beside = c.row-quiet.ensures.1;
  rows = iter_more (row_free c.args.m c.args.n) (passed (svd c.args.a.now c.args.v.now) true) c.loop-last.last _ _ c.loop-last.invariant.rows c.row-quiet.ensures.0;
}

pub returns : goal.returns
unfolding pass_free
returns c = (
  iter_done (row_free c.args.m c.args.n) (passed (svd c.args.a.now c.args.v.now) true) c.loop-last.last _ _ c.loop-last.invariant.rows (c.loop-last.auto.last-end c.loop-p.invariant.bound) c.loop-last-test.false,
  c.loop-last.invariant.beside,
)
