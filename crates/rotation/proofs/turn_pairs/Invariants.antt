-- `rotation::turn_pairs`: the invariant: the first r pairs are turned (turn_pairs).
use mathlib.Core.Path.{◌≡◌}
use lib.ListN.{length}
use Rattle.rotation.specs.Pairs.{turn_pairs}
use Rattle.rotation.proofs.turn_pairs.Given as goal

abbrev pub invariant-loop-r : goal.invariant-loop-r
invariant-loop-r now = (length now.l ≡ length now.initial.l) × (now.l ≡ turn_pairs now.r now.step now.a now.b now.c now.s now.initial.l)
