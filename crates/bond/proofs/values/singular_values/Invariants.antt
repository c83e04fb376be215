-- `bond::values::singular_values`: the invariant: the first i values are the roots of the diagonal's, and after the last all are (fill_all).
use Prim.Native.Nat.{ℕ}
use mathlib.Core.Path.{◌≡◌}
use mathlib.Core.List.{List}
use lib.ListN.{set}
use lib.Ieee.{Float}
use Rattle.lists.specs.Lists.{iter}
use Rattle.lists.specs.Floats.{cell}
use Rattle.cutform.specs.Values.{singular_of}
use Rattle.bond.proofs.values.singular_values.Given as goal

abbrev pub invariant-loop-i : goal.invariant-loop-i
invariant-loop-i now = now.sv ≡ iter now.i (λ (j : ℕ) (l : List Float). set l j (singular_of (cell now.n now.g j j))) now.initial.sv
