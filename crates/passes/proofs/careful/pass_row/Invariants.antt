-- `passes::careful::pass_row`: the invariant: what is left of the row is the row from column q, and sums of squares and columns stay in step (Held); a pair that is not finite stops it (stage_stop).
use Prim.Native.Nat.{ℕ, ◌-◌}
use mathlib.Core.Path.{◌≡◌}
use Rattle.lists.specs.Walks.{turning}
use Rattle.pairform.specs.Passes.{svd, passed, rotate}
use Rattle.passes.specs.Loops.{pass_row, Held}
use Rattle.passes.proofs.careful.pass_row.Given as goal

abbrev pub invariant-loop-q : goal.invariant-loop-q
invariant-loop-q l = record {
  held : Held l.m l.n l.a l.v l.ss;
  left : pass_row l.m l.n l.p (passed (svd l.initial.a l.initial.v) l.still) ≡ turning (l.n - l.q) l.q (λ (j : ℕ). rotate l.m l.n l.p j) (passed (svd l.a l.v) l.quiet);
}
