-- `bond::factors::carry_row`: the invariant: the first j entries of the row are stored.
use Prim.Native.Nat.{ℕ, ◌+◌, ◌*◌}
use mathlib.Core.Path.{◌≡◌}
use Rattle.numbers.specs.Arithmetic.{times}
use Rattle.lists.specs.Floats.{at}
use Rattle.lists.specs.Strips.{stored_from}
use Rattle.bond.proofs.factors.carry_row.Given as goal

abbrev pub invariant-loop-j : goal.invariant-loop-j
invariant-loop-j l = l.carry ≡ stored_from (l.i * l.n) l.j (λ (t : ℕ). times l.value (at l.columns (t * l.r + l.i))) l.initial.carry
