-- `columns::plainly_turned`: where the squared product is above the bound, the definition's test by a root fails too (turned_plainly).
use borrow.Author.Tests.{not-true}
use Rattle.columns.proofs.Plainly.{turned_plainly}
use Rattle.columns.proofs.plainly_turned.Goals as goal

pub returns-then-product : goal.returns-then-product
returns-then-product c h = turned_plainly _ _ _ c.if-product.true (not-true _ h)
