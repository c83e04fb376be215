-- `lists::eight_sums`: the invariant: each of the eight sums is that of the turns made; within a turn, the first c have their term of it added.
use Rattle.std.proofs.Common.{ℕ, ◌+◌, ◌*◌, ◌≡◌}
use Rattle.lists.specs.Floats.{at}
use Rattle.lists.specs.Strips.{added_in}
use Rattle.lists.proofs.Eighths.{Eighths}
use Rattle.lists.proofs.eight_sums.Given as goal

abbrev pub invariant-loop-j : goal.invariant-loop-j
invariant-loop-j l = Eighths l.s l.j l.sums

abbrev pub invariant-loop-c : goal.invariant-loop-c
invariant-loop-c l = l.sums ≡ added_in l.c (λ (c : ℕ). at l.s (l.j * 8 + c)) l.initial.sums
