-- `shift::blocks::backwards`: the invariant: the first q rows are the last ones of s, backwards (joins_more), each a copy of one row (row_back).
use Prim.Native.Nat.{ℕ, suc, ◌+◌, ◌*◌, ◌-◌}
use mathlib.Core.Path.{◌≡◌}
use Rattle.lists.specs.Lists.{tab}
use Rattle.lists.specs.Floats.{at}
use Rattle.lists.proofs.Over.{join_over}
use Rattle.shift.proofs.blocks.backwards.Given as goal

abbrev pub invariant-loop-q : goal.invariant-loop-q
invariant-loop-q l = (l.d ≡ join_over l.rr (λ (i : ℕ). tab l.rr (λ (x : ℕ). at l.s ((l.n - suc i) * l.rr + x))) l.initial.d l.q)
