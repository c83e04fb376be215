-- `bond::swept_within`: the matrices lent are the front of their slices (swept_front).
use mathlib.Core.Path.{◌∙◌}
use Rattle.lists.proofs.Parts.{span_length}
use Rattle.bond.proofs.Staged.{swept_front}
use Rattle.bond.proofs.swept_within.Goals as goal

pub returns : goal.returns
returns c = swept_front _ _ _ _ _ _ _ c.swept_gram.ensures
    (c.g-1.given.0 ∙ span_length _ _ c.requires.4) (c.v-1.given.0 ∙ span_length _ _ c.requires.5)
