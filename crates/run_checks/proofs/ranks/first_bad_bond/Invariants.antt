-- `run_checks::ranks::first_bad_bond`: the invariant: all bonds before k passed both tests (both_found); the first that does not is found (passing).
use Rattle.lists.proofs.Demands.{Passed}
use mathlib.Core.Bool.{◌&&◌}
use Prim.Native.Nat.{ℕ}
use Rattle.runform.specs.Checks.{rank_ok}
use Rattle.shape.specs.Shapes.{bond_ok}
use Rattle.run_checks.proofs.ranks.first_bad_bond.Given as goal

abbrev pub invariant-loop-k : goal.invariant-loop-k
invariant-loop-k l = Passed (λ (j : ℕ). bond_ok l.s j && rank_ok l.s l.bonds j) l.s.d l.k
