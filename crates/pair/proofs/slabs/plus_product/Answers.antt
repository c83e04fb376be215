-- `pair::slabs::plus_product`: the two cases of the test are those of the definition.
use Rattle.lists.specs.Lists.{pick}
use Rattle.pairform.specs.Slabs.{plus_product}
use Rattle.pair.proofs.slabs.plus_product.Goals as goal

pub returns-then-x : goal.returns-then-x
unfolding plus_product pick
returns-then-x c = rw c.if-x.true

pub returns : goal.returns
unfolding plus_product pick
returns c = rw c.if-x.false
