-- `passes::careful::pass`: the invariant: what is left of the pass is the pass from row p, and sums of squares and columns stay in step (Held); a row that is not finite stops it (stage_stop).
use Prim.Native.Nat.{◌-◌}
use mathlib.Core.Path.{◌≡◌}
use Rattle.lists.specs.Walks.{turning}
use Rattle.pairform.specs.Passes.{svd, passed, pass}
use Rattle.passes.specs.Loops.{pass_row, Held}
use Rattle.passes.proofs.careful.pass.Given as goal

abbrev pub invariant-loop-p : goal.invariant-loop-p
invariant-loop-p l = record {
  held : Held l.m l.n l.a l.v l.ss;
  left : pass l.m l.n (svd l.initial.a l.initial.v) ≡ turning (l.n - l.p) l.p (pass_row l.m l.n) (passed (svd l.a l.v) l.quiet);
}
