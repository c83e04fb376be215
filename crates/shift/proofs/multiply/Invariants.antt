-- `shift::multiply`: the invariant: the numbers before the index are multiplied.
use mathlib.Core.Path.{◌≡◌}
use mathlib.Core.List.{map}
use lib.Ieee.{Float}
use Rattle.numbers.specs.Arithmetic.{times}
use Rattle.lists.proofs.Over.{over_to}
use Rattle.shift.proofs.multiply.Given as goal

abbrev pub invariant-loop-v : goal.invariant-loop-v
invariant-loop-v l = l.s ≡ over_to l.v-index (map (λ (v : Float). times v l.factor) l.initial.s) l.initial.s
