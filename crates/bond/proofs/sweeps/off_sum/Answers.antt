use mathlib.Core.Path.{sym, ◌∙◌}
use Rattle.lists.proofs.Turns.{iter_done}
use Rattle.bond.proofs.Swept.{off_rows}
use Rattle.bond.proofs.sweeps.off_sum.Goals as goal

pub returns : goal.returns
returns c = iter_done _ _ _ _ _ c.loop-p.invariant c.loop-p.auto.p-end c.loop-p-test.false ∙ sym (off_rows _ _)
