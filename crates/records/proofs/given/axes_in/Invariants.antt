-- `records::given::axes_in`: the invariant: the first k records are made (made_more), and after the last all are (made_all).
use Rattle.shape.specs.Limits.{most_axes}
use Rattle.records.specs.Given.{axis_in}
use Rattle.records.proofs.Mapped.{MadeUpTo}
use Rattle.records.proofs.given.axes_in.Given as goal

abbrev pub invariant-loop-k : goal.invariant-loop-k
invariant-loop-k l = MadeUpTo axis_in l.xs most_axes l.list l.k
