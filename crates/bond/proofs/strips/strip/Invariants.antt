-- `bond::strips::strip`: the invariant: the strip's sums have the first k terms (sums_to); then they are stored (strip_end).
use mathlib.Core.Path.{◌≡◌}
use Rattle.bond.proofs.StripProducts.{sums_to}
use Rattle.bond.proofs.strips.strip.Given as goal

abbrev pub invariant-loop-k : goal.invariant-loop-k
invariant-loop-k l = l.sums ≡ sums_to l.h l.b l.p l.q l.a l.w l.j l.k l.initial.sums
