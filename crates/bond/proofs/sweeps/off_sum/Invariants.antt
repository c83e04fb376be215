-- `bond::sweeps::off_sum`: the invariant: the sum has the first p rows, and after the last all of them (off_rows).
use mathlib.Core.Path.{◌≡◌}
use Rattle.lists.specs.Lists.{iter}
use Rattle.bond.specs.SweepRows.{off_row}
use Rattle.bond.proofs.sweeps.off_sum.Given as goal

abbrev pub invariant-loop-p : goal.invariant-loop-p
invariant-loop-p l = l.sum ≡ iter l.p (off_row l.n l.g) l.initial.sum
