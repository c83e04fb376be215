use Rattle.bond.proofs.StripProducts.{strip_end}
use Rattle.bond.proofs.strips.strip.Goals as goal

pub returns : goal.returns
returns c = strip_end _ _ _ _ _ _ _ _ _ _ _ _ _ c.loop-k.invariant c.store_sums.ensures c.loop-k.auto.k-end
    c.loop-k-test.false c.requires.0
