-- `cuts::carry_offset`: the invariant: the total is where the carry of bond j starts (offsets, carry-slots).
use mathlib.Core.Path.{◌≡◌}
use Rattle.lists.specs.Slots.{offset}
use Rattle.cutform.specs.Keeping.{carry_size}
use Rattle.cuts.proofs.carry_offset.Given as goal

abbrev pub invariant-loop-j : goal.invariant-loop-j
invariant-loop-j l = l.total ≡ offset (carry_size l.s) l.j
