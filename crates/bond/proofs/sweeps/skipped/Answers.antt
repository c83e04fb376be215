-- `bond::sweeps::skipped`: by the mode: the pair's number beside its two diagonal entries, or by itself (skipped_scaled, skipped_absolute).
use Rattle.bond.proofs.Modes.{skipped_scaled, skipped_absolute}
use Rattle.bond.proofs.sweeps.skipped.Goals as goal

pub returns-then-mode-eq-SCALED : goal.returns-then-mode-eq-SCALED
returns-then-mode-eq-SCALED c = skipped_scaled _ c.if-mode-eq-SCALED.true _ _ _ _ _ _ _ _ c.number_at-x.ensures
    c.number_at-low.ensures c.number_at-high.ensures c.small_beside.ensures

pub returns : goal.returns
returns c = skipped_absolute _ c.if-mode-eq-SCALED.false _ _ _ _ _ c.number_at-x.ensures
