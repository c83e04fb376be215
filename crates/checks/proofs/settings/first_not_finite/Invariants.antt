-- `checks::settings::first_not_finite`: the invariant: all axes before k are finite; the first that is not is found (passing, axis_found).
use Rattle.lists.proofs.Demands.{Passed}
use Rattle.stepform.specs.Axes.{axis_finite, axis_at}
use Prim.Native.Nat.{ℕ}
use Rattle.checks.proofs.settings.first_not_finite.Given as goal

abbrev pub invariant-loop-k : goal.invariant-loop-k
invariant-loop-k l = Passed (λ (j : ℕ). axis_finite (axis_at l.xs j)) l.d l.k
