use mathlib.Core.Path.{sym, ◌∙◌}
use Rattle.lists.proofs.Turns.{iter_done}
use Rattle.bond.proofs.Swept.{still_rows}
use Rattle.bond.proofs.sweeps.still.Goals as goal

pub returns : goal.returns
returns c = iter_done _ _ _ _ _ c.loop-p.invariant c.loop-p.auto.p-end c.loop-p-test.false ∙ sym (still_rows _ _ _)
