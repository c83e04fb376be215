-- `bond::sweeps::still`: the invariant: the flag says whether the first p rows are still, and after the last whether all are (still_rows).
use mathlib.Core.Path.{◌≡◌}
use Rattle.lists.specs.Lists.{iter}
use Rattle.bond.specs.SweepRows.{still_row}
use Rattle.bond.proofs.sweeps.still.Given as goal

abbrev pub invariant-loop-p : goal.invariant-loop-p
invariant-loop-p l = l.every ≡ iter l.p (still_row l.mode l.n l.g) l.initial.every
