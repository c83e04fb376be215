use Rattle.lists.proofs.Turns.{turns}
use Rattle.bond.proofs.StripProducts.{rows_done}
use Rattle.bond.proofs.strips.product.Goals as goal

pub returns : goal.returns
returns c = search (turns, rows_done)
