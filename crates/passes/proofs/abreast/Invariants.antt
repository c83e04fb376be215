-- `passes::abreast`: the invariant: before column q the columns, the basis and the flag are those of two rows in step, and so are the plans (step_more).
use Prim.Native.Nat.{◌+◌, ◌-◌, ◌*◌, ◌≤◌}
use mathlib.Core.Path.{◌≡◌}
use lib.ListN.{length}
use Rattle.pairform.specs.Passes.{svd, Pass, passed}
use Rattle.passes.specs.Free.{in_step, Paced}
use Rattle.passes.proofs.abreast.Given as goal

abbrev pub invariant-loop-q : goal.invariant-loop-q
invariant-loop-q l =
    (l.q ≤ l.n) × (l.p + 3 ≤ l.q) × (length l.a ≡ length l.initial.a) × (length l.v ≡ length l.initial.v) × (length l.ss ≡ length l.initial.ss) × Paced l.m l.n l.p l.q l.a l.ss l.k × (length l.v ≡ l.n * l.n)
    × ((x : Pass) → passed (svd l.initial.a l.initial.v) l.initial.k.quiet ≡ in_step l.m l.n l.p (l.p + 3) x → passed (svd l.a l.v) l.k.quiet ≡ in_step l.m l.n l.p l.q x)

abbrev pub decreases-loop-q : goal.decreases-loop-q
decreases-loop-q l = l.n - l.q
