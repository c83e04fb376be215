-- `passes::quick_passes`: the invariant: after each pass all is finite, so it was a pass of the definition (pass_staged, passes_more).
use Prim.Native.Nat.{◌-◌}
use mathlib.Core.Path.{◌≡◌}
use Rattle.pairform.specs.Passes.{svd, passes_from, orthogonalized, most_passes}
use Rattle.passes.specs.Loops.{Held}
use Rattle.passes.proofs.quick_passes.Given as goal

abbrev pub invariant-loop-count : goal.invariant-loop-count
invariant-loop-count l = record {
  held : Held l.m l.n l.a l.v l.ss;
  left : orthogonalized l.m l.n (svd l.initial.a l.initial.v) ≡ passes_from (most_passes - l.count) l.quiet l.m l.n l.count (svd l.a l.v);
}
