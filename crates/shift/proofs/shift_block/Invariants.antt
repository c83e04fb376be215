-- `shift::shift_block`: the invariant: the first j numbers are those of the shifted block (tabs), whose bands are in the block written twice (rooms).
use mathlib.Core.Path.{◌≡◌}
use Rattle.lists.proofs.Over.{tab_over}
use Rattle.shift.specs.Starts.{entry_in}
use Rattle.shift.proofs.shift_block.Given as goal

abbrev pub invariant-loop-j : goal.invariant-loop-j
invariant-loop-j l = (l.out ≡ tab_over (entry_in l.t l.forward l.ahead l.backward l.behind) l.initial.out l.j)
