-- `passes::orthogonalize`: the quick passes' answer where all stayed finite, or else the plain passes from the kept columns again (again).
use mathlib.Core.Path.{sym, ap, ◌∙◌}
use lib.ListN.{length}
use Rattle.answers.specs.Outcome.{outcome_of}
use Rattle.lists.specs.Floats.{all_finite}
use Rattle.passes.proofs.Rotated.{held_first}
use Rattle.passes.proofs.Spun.{again}
use Rattle.passes.proofs.orthogonalize.Goals as goal

pub returns-in-Some : goal.returns-in-Some
unfolding outcome_of
returns-in-Some c = c.in-Some.ensures

pub orthogonalize-requires : goal.orthogonalize-requires
orthogonalize-requires c = let e = c.copy-2.ensures ∙ c.copy.ensures in
    held_first _ _ _ _ _ (ap length e ∙ c.requires.0.long) (ap all_finite e ∙ c.requires.0.fine) c.eye.ensures c.square.ensures

pub returns : goal.returns
returns c = (again _ _ _ _ _ _ (c.copy-2.ensures ∙ c.copy.ensures) (c.eye.ensures ∙ sym c.requires.1) _ c.orthogonalize.ensures.0, c.orthogonalize.ensures.1)
