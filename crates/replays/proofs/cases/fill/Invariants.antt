-- `replays::cases::fill`: memory safety alone: done stays within the list, and no more is promised.
use Rattle.std.proofs.Common.{◌≤◌, ◌-◌, length}
use Rattle.replays.proofs.cases.fill.Given as goal

abbrev pub invariant-loop-done : goal.invariant-loop-done
invariant-loop-done l = l.done ≤ length l.list

abbrev pub decreases-loop-done : goal.decreases-loop-done
decreases-loop-done l = length l.initial.list - l.done
