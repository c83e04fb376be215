-- `bond::values::keep_within`: the fronts of the lists hold what `keep_all` leaves in them (chosen_front).
use Prim.Native.Nat.{◌*◌}
use mathlib.Core.Path.{◌∙◌}
use Rattle.lists.proofs.Parts.{span_length}
use Rattle.bond.proofs.Chosen.{chosen_front}
use Rattle.bond.proofs.values.keep_within.Goals as goal

pub returns : goal.returns
returns c = chosen_front _ _ (c.args.n * c.args.n) c.args.g.now _ _ _ _ _ c.keep_all.ensures
    (c.js-1.given.0 ∙ span_length _ _ c.requires.4) (c.ss-1.given.0 ∙ span_length _ _ c.requires.3)
