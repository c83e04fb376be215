-- `checks::settings::first_out_of_order`: the invariant: all axes before k passed; the first that does not is found (passing, axis_found).
use Rattle.lists.proofs.Demands.{Passed}
use Rattle.stepform.specs.Axes.{axis_ok, axis_at}
use Prim.Native.Nat.{ℕ}
use Rattle.checks.proofs.settings.first_out_of_order.Given as goal

abbrev pub invariant-loop-k : goal.invariant-loop-k
invariant-loop-k l = Passed (λ (j : ℕ). axis_ok (axis_at l.xs j)) l.d l.k
