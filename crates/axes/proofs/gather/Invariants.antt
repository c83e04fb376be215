-- `axes::gather`: the invariant: the list holds the first k records, and blanks after them.
use mathlib.Core.Path.{◌≡◌}
use Rattle.axes.proofs.Gathered.{filled}
use Rattle.axes.proofs.gather.Given as goal

abbrev pub invariant-loop-k : goal.invariant-loop-k
invariant-loop-k l = l.list ≡ filled l.xs l.k
