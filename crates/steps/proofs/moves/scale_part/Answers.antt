-- `steps::moves::scale_part`: a part lent and given back: it alone is new (part_read, part_back).
use Rattle.steps.proofs.Fronts.{part_is, part_read, part_back}
use mathlib.Core.Path.{◌∙◌, sym, ap}
use Rattle.answers.specs.Outcome.{answered}
use Rattle.stepform.specs.Shifts.{scaled}
use Rattle.steps.proofs.moves.scale_part.Goals as goal

pub returns : goal.returns
returns c = record {
  work_value = ap (scaled _ _) (sym (part_is _ _ _ c.requires)) ∙ c.scale.ensures ∙ ap (answered _)
      (sym (part_read _ _ _ c.requires c.scale.new.core c.scale.auto.core));
  work_after = part_back _ _ _ c.requires
      c.scale.new.core c.scale.auto.core;
}
