-- `bond::factors::gather`: the invariant: the first k rows are gathered, and after the last all are (rows_whole).
use Prim.Native.Nat.{ℕ, ◌*◌}
use mathlib.Core.Path.{◌≡◌}
use lib.ListN.{get_or}
use Rattle.lists.specs.Lists.{iter}
use Rattle.lists.specs.Floats.{cell}
use Rattle.lists.specs.Strips.{stored_from}
use Rattle.bond.proofs.factors.gather.Given as goal

abbrev pub invariant-loop-k : goal.invariant-loop-k
invariant-loop-k l = l.columns ≡ iter l.k (λ (i : ℕ). stored_from (i * l.r) l.r (λ (j : ℕ). cell l.n l.v i (get_or l.js j 0))) l.initial.columns
