-- `passes::turn_two`: two turns of the basis, one after the other.
use mathlib.Core.Path.{◌∙◌, ap}
use Rattle.passes.specs.Free.{by_plan}
use Rattle.passes.proofs.turn_two.Goals as goal

pub returns : goal.returns
returns c = c.turn_basis-2.ensures ∙ ap (by_plan _ _ _ _ _) c.turn_basis.ensures
