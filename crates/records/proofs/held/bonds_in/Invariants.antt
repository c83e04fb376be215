-- `records::held::bonds_in`: the invariant: the first k records are made (made_more), and after the last all are (made_all).
use Rattle.shape.specs.Limits.{most_axes}
use Rattle.records.specs.Held.{bond_in}
use Rattle.records.proofs.Mapped.{MadeUpTo}
use Rattle.records.proofs.held.bonds_in.Given as goal

abbrev pub invariant-loop-k : goal.invariant-loop-k
invariant-loop-k l = MadeUpTo bond_in l.bs most_axes l.list l.k
