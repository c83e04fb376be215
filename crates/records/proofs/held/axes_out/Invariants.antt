-- `records::held::axes_out`: the invariant: the first k records are made (made_more), and after the last all are (made_all).
use Rattle.shape.specs.Limits.{most_axes}
use Rattle.records.specs.Held.{axis_out}
use Rattle.records.proofs.Mapped.{MadeUpTo}
use Rattle.records.proofs.held.axes_out.Given as goal

abbrev pub invariant-loop-k : goal.invariant-loop-k
invariant-loop-k l = MadeUpTo axis_out l.xs most_axes l.list l.k
