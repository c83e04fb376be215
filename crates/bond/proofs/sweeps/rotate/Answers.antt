-- `bond::sweeps::rotate`: a pair that is skipped stays (rotate_skip); any other is turned by its slope, tangent and cosine (rotate_go).
use Rattle.lists.proofs.Turns.{turns}
use Rattle.bond.proofs.Rotations.{rotate_skip, rotate_go}
use Rattle.bond.proofs.sweeps.rotate.Goals as goal

pub returns : goal.returns
returns c = rotate_go _ _ _ _ _ _ _ c.skipped.ensures
    c.if-skipped.false _ _ _
    c.pair_slope.ensures
    c.tangent-t.ensures
    c.cosine-c.ensures _ _ c.apply_jacobi_rotation.ensures

pub returns-then-skipped : goal.returns-then-skipped
returns-then-skipped c = search (turns, rotate_skip)
