use Rattle.product.proofs.Strips.{strip_end}
use Rattle.product.proofs.contraction.strip.Goals as goal

pub returns : goal.returns
returns c = strip_end _ _ _ _ _ _ _ _ _ _ c.loop-a.invariant.2 c.store_sums.ensures
    c.loop-a.invariant.0 c.loop-a-test.false
    c.requires.0
