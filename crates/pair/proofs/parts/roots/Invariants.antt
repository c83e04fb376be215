-- `pair::parts::roots`: the invariant: the numbers passed are rooted (maps_more), and after the last all are (maps_done).
use mathlib.Core.Path.{◌≡◌}
use mathlib.Core.List.{map}
use Rattle.numbers.specs.Root.{root_of}
use Rattle.lists.proofs.Over.{over_to}
use Rattle.pair.proofs.parts.roots.Given as goal

abbrev pub invariant-loop-x : goal.invariant-loop-x
invariant-loop-x l = l.s ≡ over_to l.x-index (map root_of l.initial.s) l.initial.s
