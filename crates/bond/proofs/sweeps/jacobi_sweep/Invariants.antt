-- `bond::sweeps::jacobi_sweep`: the invariant: what is left of the sweep is the sweep from row p (sweep_rows); a row that is not finite stops it (stagings).
use Prim.Native.Nat.{◌-◌}
use mathlib.Core.Path.{◌≡◌}
use Rattle.lists.specs.Walks.{turning}
use Rattle.cutform.specs.Sweeps.{eig, sweep}
use Rattle.bond.specs.SweepRows.{sweep_row}
use Rattle.bond.proofs.sweeps.jacobi_sweep.Given as goal

abbrev pub invariant-loop-p : goal.invariant-loop-p
invariant-loop-p l = sweep l.mode l.n (eig l.initial.g l.initial.v) ≡ turning (l.n - l.p) l.p (sweep_row l.mode l.n) (eig l.g l.v)
