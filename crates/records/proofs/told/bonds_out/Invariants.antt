-- `records::told::bonds_out`: the invariant: the first k records are made (made_more), and after the last all are (made_all).
use Rattle.shape.specs.Limits.{most_axes}
use Rattle.records.specs.Told.{bond_out}
use Rattle.records.proofs.Mapped.{MadeUpTo}
use Rattle.records.proofs.told.bonds_out.Given as goal

abbrev pub invariant-loop-k : goal.invariant-loop-k
invariant-loop-k l = MadeUpTo bond_out l.bs most_axes l.list l.k
