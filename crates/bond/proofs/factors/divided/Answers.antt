-- `bond::factors::divided`: by the mode: above zero, or above 1e-30 (divided_scaled, divided_absolute).
use Rattle.bond.proofs.Modes.{divided_scaled, divided_absolute}
use Rattle.bond.proofs.factors.divided.Goals as goal

pub returns-then-mode-eq-SCALED : goal.returns-then-mode-eq-SCALED
returns-then-mode-eq-SCALED c = divided_scaled _ c.if-mode-eq-SCALED.true _

pub returns : goal.returns
returns c = divided_absolute _ c.if-mode-eq-SCALED.false _
