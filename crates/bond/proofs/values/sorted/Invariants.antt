-- `bond::values::sorted`: the invariant: the first r values are read in the order, whose indices are within the list (order_lt); after the last they are sorted (sorted_is).
use Prim.Native.Nat.{ℕ}
use mathlib.Core.Path.{◌≡◌}
use mathlib.Core.List.{List}
use lib.ListN.{set, get_or}
use lib.Ieee.{Float}
use Rattle.lists.specs.Lists.{iter}
use Rattle.lists.specs.Floats.{at}
use Rattle.bond.proofs.values.sorted.Given as goal

abbrev pub invariant-loop-r : goal.invariant-loop-r
invariant-loop-r now = now.ss ≡ iter now.r (λ (i : ℕ) (l : List Float). set l i (at now.sv (get_or now.js i 0))) now.initial.ss
