-- `bond::values::order`: the invariant: the first i indices stand at their places, each within the list (rank_lt); after the last this is the order (order_is).
use Prim.Native.Nat.{ℕ}
use mathlib.Core.Path.{◌≡◌}
use mathlib.Core.List.{List}
use lib.ListN.{set}
use Rattle.lists.specs.Lists.{iter}
use Rattle.cutform.specs.Values.{place_in}
use Rattle.bond.proofs.values.order.Given as goal

abbrev pub invariant-loop-i : goal.invariant-loop-i
invariant-loop-i now = now.js ≡ iter now.i (λ (k : ℕ) (l : List ℕ). set l (place_in now.n now.sv k) k) now.initial.js
