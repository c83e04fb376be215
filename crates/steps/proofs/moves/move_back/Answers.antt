-- `steps::moves::move_back`: a part lent and given back: it alone is new (part_read, part_back).
use Rattle.steps.proofs.Fronts.{part_is, part_read, part_back}
use mathlib.Core.Path.{◌∙◌, sym, ap}
use native.Mathlib.Nat.{sub-zero}
use Rattle.answers.specs.Outcome.{answered}
use Rattle.steps.proofs.moves.move_back.Goals as goal

pub move_core-requires : goal.move_core-requires
move_core-requires c = (rw (sub-zero, part_is _ _ _ c.requires.size_in_bounds.1) c.requires.lent.0, c.requires.lent.1)

pub returns : goal.returns
returns c = record {
  room_value = rw sub-zero at c.move_core.ensures ∙ ap (answered _)
      (sym (part_read _ _ _ c.requires.size_in_bounds.1 c.move_core.new.out c.move_core.auto.out));
  work_after = part_back _ _ _
      c.requires.size_in_bounds.1 c.move_core.new.out c.move_core.auto.out;
}
