-- `cuts::zone::take_in`: what was made in the room is copied to the front of the slot (taken_is).
use borrow.Author.Rules.{rules}
use Rattle.cuts.proofs.Zoned.{sizes, taken_is}
use mathlib.Core.Path.{◌∙◌}
use Rattle.lists.proofs.Parts.{span_length}
use Rattle.cuts.proofs.zone.take_in.Goals as goal

ruleset ways = (rules, sizes)

pub returns : goal.returns
returns c = taken_is _ _ _ _ _ _ _ _ _ _ _ c.absorbed-made.ensures (c.absorbed-made.auto.out ∙ span_length _ _ c.requires.3)
    c.copy.ensures
