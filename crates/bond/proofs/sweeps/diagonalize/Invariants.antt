-- `bond::sweeps::diagonalize`: the invariant: what is left of the sweeps is the sweeps from here; settled, still, stopped or done, each is a case of the definition.
use Prim.Native.Nat.{◌-◌}
use mathlib.Core.Path.{◌≡◌}
use Rattle.cutform.specs.Modes.{settled}
use Rattle.cutform.specs.Sweeps.{eig, sweeps_from, diagonalized, most_sweeps}
use Rattle.bond.proofs.sweeps.diagonalize.Given as goal

abbrev pub invariant-loop-count : goal.invariant-loop-count
invariant-loop-count l = record {
  settles : l.settles ≡ settled l.mode l.n l.g;
  left : diagonalized l.mode l.n (eig l.initial.g l.initial.v) ≡ sweeps_from (most_sweeps - l.count) l.settles l.mode l.n l.count (eig l.g l.v);
}
