-- `bond::strips::product`: the invariant: the first i rows are stored, and after the last the product is (rows_done).
use Prim.Native.Nat.{ℕ, ◌*◌}
use mathlib.Core.Path.{◌≡◌}
use Rattle.lists.specs.Lists.{iter}
use Rattle.lists.specs.Strips.{stored_from}
use Rattle.bond.specs.Products.{dot_at}
use Rattle.bond.proofs.strips.product.Given as goal

abbrev pub invariant-loop-i : goal.invariant-loop-i
invariant-loop-i l = l.out ≡ iter l.i (λ (k : ℕ). stored_from (k * l.w) l.w (dot_at l.b (k * l.d) l.q l.a l.w l.c)) l.initial.out
