-- `columns::turn_strips`: the invariant: the first k strips of sixteen rows are turned (runs_more), and after the last all are (runs_done).
use Rattle.columns.proofs.Strips.{RunsTurned}
use Rattle.columns.proofs.turn_strips.Given as goal

abbrev pub invariant-loop-k : goal.invariant-loop-k
invariant-loop-k l = RunsTurned 16 l.strips l.i l.j l.c l.s l.initial.a l.k l.a
