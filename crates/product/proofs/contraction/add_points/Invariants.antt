-- `product::contraction::add_points`: the invariant: the sums have the terms of the first i points (points_in).
use Prim.Native.Nat.{◌≤◌}
use mathlib.Core.Path.{◌≡◌}
use lib.ListN.{length}
use Rattle.product.specs.ContractLoops.{points_in}
use Rattle.product.proofs.contraction.add_points.Given as goal

abbrev pub invariant-loop-i : goal.invariant-loop-i
invariant-loop-i l = (l.i ≤ length l.f) × (l.sums ≡ points_in l.h l.x l.core l.p l.rr l.f l.i l.initial.sums)
