-- `bond::sweeps::sweep_row`: the invariant: what is left of the row is the row from column q; a pair that is not finite stops it (stagings).
use Prim.Native.Nat.{ℕ, ◌-◌}
use mathlib.Core.Path.{◌≡◌}
use Rattle.lists.specs.Walks.{turning}
use Rattle.cutform.specs.Sweeps.{eig, rotate}
use Rattle.bond.specs.SweepRows.{sweep_row}
use Rattle.bond.proofs.sweeps.sweep_row.Given as goal

abbrev pub invariant-loop-q : goal.invariant-loop-q
invariant-loop-q l = sweep_row l.mode l.n l.p (eig l.initial.g l.initial.v) ≡ turning (l.n - l.q) l.q (λ (j : ℕ). rotate l.mode l.n l.p j) (eig l.g l.v)
