-- `replays::replayed`: memory safety alone: no more are good than were looked at, so the count fits.
use Prim.Native.Nat.{◌≤◌}
use Rattle.replays.proofs.replayed.Given as goal

abbrev pub invariant-loop : goal.invariant-loop
invariant-loop g l = l.good ≤ l.counter
