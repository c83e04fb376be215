-- `passes::row`: the invariant: after the pairs before q the columns, the basis and the flag are those of so many rotations, and the plan is that of (p, q).
use Prim.Native.Nat.{◌+◌, ◌-◌, ◌<◌, ◌≤◌}
use mathlib.Core.Path.{◌≡◌}
use lib.ListN.{length}
use Rattle.pairform.specs.Passes.{svd, passed}
use Rattle.lists.specs.Lists.{iter_from}
use Rattle.passes.specs.Free.{rotate_free, Beside, plan_at}
use Rattle.passes.proofs.row.Given as goal

abbrev pub invariant-loop-q : goal.invariant-loop-q
invariant-loop-q l =
    (l.q ≤ l.n) × (l.p + 1 ≤ l.q) × (length l.a ≡ length l.initial.a) × (length l.v ≡ length l.initial.v) × (length l.ss ≡ length l.initial.ss) × Beside l.m l.n l.a l.v l.ss
    × (passed (svd l.a l.v) l.quiet ≡ iter_from (l.p + 1) l.q (rotate_free l.m l.n l.p) (passed (svd l.initial.a l.initial.v) l.still)) × (l.q < l.n → l.k ≡ plan_at l.m l.a l.p l.q)

abbrev pub decreases-loop-q : goal.decreases-loop-q
decreases-loop-q l = l.n - l.q
