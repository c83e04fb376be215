-- `chainfile::making::put_table`: the invariant: the next body's start is known, and the first k entries stand (table_more).
use mathlib.Core.Path.{◌≡◌}
use Rattle.fileform.specs.File.{body_start}
use Rattle.chainfile.proofs.Makes.{entered}
use Rattle.chainfile.proofs.making.put_table.Given as goal

abbrev pub invariant-loop-k : goal.invariant-loop-k
invariant-loop-k l = record { start : l.start ≡ body_start l.s l.k; stand : l.out ≡ entered l.s l.initial.out l.k }
