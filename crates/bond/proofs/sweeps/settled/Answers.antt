-- `bond::sweeps::settled`: by the mode: the sum over pairs beside that of the squared diagonal, or by itself (settled_scaled, settled_absolute).
use Rattle.bond.proofs.Modes.{settled_scaled, settled_absolute}
use Rattle.bond.proofs.sweeps.settled.Goals as goal

pub returns-then-mode-eq-SCALED : goal.returns-then-mode-eq-SCALED
returns-then-mode-eq-SCALED c = settled_scaled _ c.if-mode-eq-SCALED.true _ _ _ _ _ c.off_sum-off.ensures c.diagonal_sum.ensures
    c.small_beside.ensures

pub returns : goal.returns
returns c = settled_absolute _ c.if-mode-eq-SCALED.false _ _ _ c.off_sum-off.ensures
