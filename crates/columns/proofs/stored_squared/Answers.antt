-- `columns::stored_squared`: a finite sum of squares has finite terms, so two of them make the whole finite (two_squared); otherwise `stored` looks at all.
use Rattle.columns.proofs.TwoColumns.{two_squared}
use Rattle.columns.proofs.stored_squared.Goals as goal

pub returns-then-first-second : goal.returns-then-first-second
returns-then-first-second c = two_squared _ _ _ _ _ c.requires.0 c.requires.1 c.requires.2 c.requires.3 _ c.requires.4 _ _ c.is_finite-first.ensures
    c.is_finite-second.ensures c.if-first-second.true
