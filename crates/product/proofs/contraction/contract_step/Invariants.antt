-- `product::contraction::contract_step`: three loops, by eights, by fours and one by one, with one invariant: the first j sums are stored (front_more), and in the end all (contract_end).
use Prim.Native.Nat.{◌-◌, ◌≤◌}
use mathlib.Core.Path.{◌≡◌}
use lib.ListN.{length}
use Rattle.lists.proofs.Strips.{row_to}
use Rattle.product.specs.ContractLoops.{new_sum}
use Rattle.product.proofs.contraction.contract_step.Given as goal

abbrev pub invariant-loop-j : goal.invariant-loop-j
invariant-loop-j l = (l.initial.j ≤ l.j) × (l.j ≤ l.rr) × (length l.out ≡ length l.initial.out) × (l.out ≡ row_to 0 (new_sum l.core l.rr l.f l.eta) l.initial.j l.j l.initial.out)

abbrev pub decreases-loop-j : goal.decreases-loop-j
decreases-loop-j l = l.rr - l.j

abbrev pub invariant-loop-j-2 : goal.invariant-loop-j-2
invariant-loop-j-2 l = (l.initial.j ≤ l.j) × (l.j ≤ l.rr) × (length l.out ≡ length l.initial.out) × (l.out ≡ row_to 0 (new_sum l.core l.rr l.f l.eta) l.initial.j l.j l.initial.out)

abbrev pub decreases-loop-j-2 : goal.decreases-loop-j-2
decreases-loop-j-2 l = l.rr - l.j

abbrev pub invariant-loop-k : goal.invariant-loop-k
invariant-loop-k l = (l.j ≤ l.k) × (l.k ≤ l.rr) × (length l.out ≡ length l.initial.out) × (l.out ≡ row_to 0 (new_sum l.core l.rr l.f l.eta) l.j l.k l.initial.out)
