-- `pair::slabs::transpose`: the invariant: the first col columns are stored, and after the last all is (rows_whole).
use Prim.Native.Nat.{ℕ, ◌-◌, ◌*◌, ◌≤◌}
use mathlib.Core.Path.{◌≡◌}
use lib.ListN.{length}
use Rattle.lists.specs.Lists.{iter}
use Rattle.lists.specs.Floats.{cell}
use Rattle.lists.specs.Strips.{stored_from}
use Rattle.pair.proofs.slabs.transpose.Given as goal

abbrev pub invariant-loop-col : goal.invariant-loop-col
invariant-loop-col l = (l.col ≤ l.n) × (length l.a ≡ length l.initial.a) × (l.a ≡ iter l.col (λ (k : ℕ). stored_from (k * l.m) l.m (λ (row : ℕ). cell l.n l.s row k)) l.initial.a)

abbrev pub decreases-loop-col : goal.decreases-loop-col
decreases-loop-col l = l.n - l.col
