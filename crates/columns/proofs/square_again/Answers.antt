-- `columns::square_again`: only columns p and q changed, so two new sums make all of them those of the columns (squared_again).
use Rattle.columns.proofs.TwoColumns.{squared_again}
use Rattle.columns.proofs.square_again.Goals as goal

pub returns : goal.returns
returns c = squared_again _ _ c.args.a.now c.args.ss.now _ _ _ _ c.requires.1 c.requires.2 c.requires.3 c.requires.4 c.squares_of-first.ensures.0
    c.squares_of-first.ensures.1
