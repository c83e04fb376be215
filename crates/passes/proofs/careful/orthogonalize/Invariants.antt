-- `passes::careful::orthogonalize`: the invariant: what is left is the passes from here, and sums of squares and columns stay in step (Held); quiet, stopped or done, each is a case of the definition.
use Prim.Native.Nat.{◌-◌}
use mathlib.Core.Path.{◌≡◌}
use Rattle.pairform.specs.Passes.{svd, passes_from, orthogonalized, most_passes}
use Rattle.passes.specs.Loops.{Held}
use Rattle.passes.proofs.careful.orthogonalize.Given as goal

abbrev pub invariant-loop-count : goal.invariant-loop-count
invariant-loop-count l = record {
  held : Held l.m l.n l.a l.v l.ss;
  left : orthogonalized l.m l.n (svd l.initial.a l.initial.v) ≡ passes_from (most_passes - l.count) l.quiet l.m l.n l.count (svd l.a l.v);
}
