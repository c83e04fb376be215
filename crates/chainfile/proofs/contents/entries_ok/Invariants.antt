-- `chainfile::contents::entries_ok`: the invariant: the first k entries stand and the next body's start is known (AtEntry); the first that does not is the one refused (entries_stop).
use Rattle.chainfile.proofs.Tables.{AtEntry}
use Rattle.chainfile.proofs.contents.entries_ok.Given as goal

abbrev pub invariant-loop-k : goal.invariant-loop-k
invariant-loop-k l = AtEntry l.bytes l.s l.start l.k
