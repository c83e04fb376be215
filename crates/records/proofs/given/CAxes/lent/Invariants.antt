-- `records::given::CAxes::lent`: the invariant: the first k axes are those lent (tabs_more), and after the last the list is the gathered one (lent_done).
use mathlib.Core.Path.{◌≡◌}
use Rattle.lists.proofs.Over.{tab_over}
use Rattle.stepform.specs.Axes.{axis_at, blanks}
use Rattle.records.specs.Given.{lent_of}
use Rattle.records.proofs.given.CAxes.lent.Given as goal

abbrev pub invariant-loop-k : goal.invariant-loop-k
invariant-loop-k l = l.list ≡ tab_over (axis_at (lent_of l.count l.self.axis)) blanks l.k
