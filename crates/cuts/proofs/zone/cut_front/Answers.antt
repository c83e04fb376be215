-- `cuts::zone::cut_front`: the core lent is the front of its slot (front_cut), and the rank of a cut is at most the core's (front_rank).
use borrow.Author.Rules.{rules}
use Rattle.cuts.proofs.Zoned.{sizes, front_rank, front_cut}
use mathlib.Core.Path.{◌∙◌}
use Rattle.lists.proofs.Parts.{span_length}
use Rattle.cuts.proofs.zone.cut_front.Goals as goal

ruleset ways = (rules, sizes)

pub returns : goal.returns
returns c = (
  front_cut _ _ _ _ _ _ _ _ _ c.cut_bond.ensures c.requires.4 (c.cut_bond.auto.core ∙ span_length _ _ c.requires.0) _,
  front_rank _ _ _ _ _ _ _ _ _ c.cut_bond.ensures c.requires.4,
)
