-- `passes::pass`: the invariants: before each row the columns, the basis and the flag are those of the rows before it (iter_two, iter_more).
use Prim.Native.Nat.{◌-◌, ◌≤◌}
use mathlib.Core.Path.{◌≡◌}
use mathlib.Core.Bool.{true}
use Rattle.lists.specs.Lists.{iter}
use Rattle.pairform.specs.Passes.{svd, passed}
use Rattle.passes.specs.Free.{row_free, Beside}
use Rattle.passes.proofs.pass.Given as goal

abbrev pub invariant-loop-p : goal.invariant-loop-p
invariant-loop-p l = record {
  bound : l.p ≤ l.n;
  beside : Beside l.m l.n l.a l.v l.ss;
  rows : passed (svd l.a l.v) l.quiet ≡ iter l.p (row_free l.m l.n) (passed (svd l.fn.a l.fn.v) true);
}

abbrev pub decreases-loop-p : goal.decreases-loop-p
decreases-loop-p l = l.n - l.p

abbrev pub invariant-loop-last : goal.invariant-loop-last
invariant-loop-last l = record {
  beside : Beside l.m l.n l.a l.v l.ss;
  rows : passed (svd l.a l.v) l.quiet ≡ iter l.last (row_free l.m l.n) (passed (svd l.fn.a l.fn.v) true);
}
