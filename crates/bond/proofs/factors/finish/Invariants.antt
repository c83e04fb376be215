-- `bond::factors::finish`: the invariant: the first j columns are finished, and after the last all are (finish_done).
use Prim.Native.Nat.{ℕ}
use mathlib.Core.Path.{◌≡◌}
use Rattle.lists.specs.Lists.{iter}
use Rattle.lists.specs.Floats.{at}
use Rattle.bond.specs.FactorRows.{finish_column}
use Rattle.bond.proofs.factors.finish.Given as goal

abbrev pub invariant-loop-j : goal.invariant-loop-j
invariant-loop-j l = l.u ≡ iter l.j (λ (k : ℕ). finish_column l.mode l.m l.r k (at l.ss k)) l.initial.u
