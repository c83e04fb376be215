-- `pair::slabs::column`: the invariant: the first rows of the column are stored.
use Prim.Native.Nat.{ℕ, ◌-◌, ◌*◌, ◌≤◌}
use mathlib.Core.Path.{◌≡◌}
use lib.ListN.{length}
use Rattle.lists.specs.Floats.{cell}
use Rattle.lists.specs.Strips.{stored_from}
use Rattle.pair.proofs.slabs.column.Given as goal

abbrev pub invariant-loop-row : goal.invariant-loop-row
invariant-loop-row l = (l.row ≤ l.m) × (length l.a ≡ length l.initial.a) × (l.a ≡ stored_from (l.col * l.m) l.row (λ (i : ℕ). cell l.n l.s i l.col) l.initial.a)

abbrev pub decreases-loop-row : goal.decreases-loop-row
decreases-loop-row l = l.m - l.row
