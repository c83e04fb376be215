-- `bond::sweeps::off_row`: the invariant: the sum has the entries before column q (from_more).
use Prim.Native.Nat.{ℕ, ◌+◌}
use mathlib.Core.Path.{◌≡◌}
use lib.Ieee.{Float}
use Rattle.numbers.specs.Arithmetic.{plus, times, two64}
use Rattle.lists.specs.Lists.{iter_from}
use Rattle.lists.specs.Floats.{cell}
use Rattle.bond.proofs.sweeps.off_row.Given as goal

abbrev pub invariant-loop-q : goal.invariant-loop-q
invariant-loop-q l = l.sum ≡ iter_from (l.p + 1) l.q (λ (j : ℕ) (x : Float). plus x (times (times two64 (cell l.n l.g l.p j)) (cell l.n l.g l.p j))) l.initial.sum
