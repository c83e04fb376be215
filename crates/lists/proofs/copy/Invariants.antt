-- `lists::copy`: the invariant: the first i numbers are those of s (over_more), and after the last all are (over_all).
use mathlib.Core.Path.{◌≡◌}
use lib.ListN.{length}
use Rattle.lists.proofs.Over.{over_to}
use Rattle.lists.proofs.copy.Given as goal

abbrev pub invariant-loop-i : goal.invariant-loop-i
invariant-loop-i l = (length l.d ≡ length l.initial.d) × (l.d ≡ over_to l.i l.s l.initial.d)
