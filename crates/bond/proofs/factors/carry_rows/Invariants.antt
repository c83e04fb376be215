-- `bond::factors::carry_rows`: the invariant: the first i rows are stored, and after the last all are (rows_whole).
use Prim.Native.Nat.{ℕ, ◌+◌, ◌*◌}
use mathlib.Core.Path.{◌≡◌}
use Rattle.numbers.specs.Arithmetic.{times}
use Rattle.lists.specs.Lists.{iter}
use Rattle.lists.specs.Floats.{at}
use Rattle.lists.specs.Strips.{stored_from}
use Rattle.bond.proofs.factors.carry_rows.Given as goal

abbrev pub invariant-loop-i : goal.invariant-loop-i
invariant-loop-i l = l.carry ≡ iter l.i (λ (k : ℕ). stored_from (k * l.n) l.n (λ (j : ℕ). times (at l.ss k) (at l.columns (j * l.r + k)))) l.initial.carry
