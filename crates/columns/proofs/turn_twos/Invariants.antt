-- `columns::turn_twos`: the invariant: the first k pairs of rows are turned (runs_more), and after the last all are (runs_done).
use Rattle.columns.proofs.Strips.{RunsTurned}
use Rattle.columns.proofs.turn_twos.Given as goal

abbrev pub invariant-loop-k : goal.invariant-loop-k
invariant-loop-k l = RunsTurned 2 l.twos l.i l.j l.c l.s l.initial.a l.k l.a
