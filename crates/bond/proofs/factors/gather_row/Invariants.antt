-- `bond::factors::gather_row`: the invariant: the first j entries of the row are gathered; their columns are within the basis (exact_lt).
use Prim.Native.Nat.{ℕ, ◌*◌}
use mathlib.Core.Path.{◌≡◌}
use lib.ListN.{get_or}
use Rattle.lists.specs.Floats.{cell}
use Rattle.lists.specs.Strips.{stored_from}
use Rattle.bond.proofs.factors.gather_row.Given as goal

abbrev pub invariant-loop-j : goal.invariant-loop-j
invariant-loop-j l = l.columns ≡ stored_from (l.k * l.r) l.j (λ (t : ℕ). cell l.n l.v l.k (get_or l.js t 0)) l.initial.columns
