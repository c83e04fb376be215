-- `product::contraction::strip`: the invariant: the strip's sums have the terms of the first a rows (sums_to); then they are stored (strip_end).
use Prim.Native.Nat.{◌*◌, ◌≤◌}
use mathlib.Core.Path.{◌≡◌}
use lib.ListN.{length}
use Rattle.product.proofs.Strips.{sums_to}
use Rattle.product.proofs.contraction.strip.Given as goal

abbrev pub invariant-loop-a : goal.invariant-loop-a
invariant-loop-a l = (l.a ≤ length l.eta) × (l.width ≡ length l.f * l.rr) × (l.sums ≡ sums_to l.h l.core l.rr l.f l.eta l.j l.a l.initial.sums)
