-- `bond::strips::add_scaled`: the invariant: the first t sums have their term (added_in).
use Prim.Native.Nat.{ℕ, ◌+◌}
use mathlib.Core.Path.{◌≡◌}
use Rattle.numbers.specs.Arithmetic.{times}
use Rattle.lists.specs.Floats.{at}
use Rattle.lists.specs.Strips.{added_in}
use Rattle.bond.proofs.strips.add_scaled.Given as goal

abbrev pub invariant-loop-t : goal.invariant-loop-t
invariant-loop-t l = l.sums ≡ added_in l.t (λ (i : ℕ). times l.x (at l.a (l.p + i))) l.initial.sums
