-- `steps::moves::scale_from`: from a later zone on nothing is scaled (none_scaled); from core 0 on it alone is (first_scaled), and the rest stays (stand_others).
use Rattle.steps.proofs.Standings.{stand_end, stand_others, stand_scaled}
use Rattle.steps.proofs.Scalings.{onward_none, none_scaled, first_scaled}
use Rattle.steps.proofs.moves.scale_from.Goals as goal

pub returns-then-z-ne0 : goal.returns-then-z-ne0
returns-then-z-ne0 c = record {
  work_value = none_scaled _ _ _ _ _ c.if-z-ne0.true;
  onward = onward_none _ _ _;
}

pub scale_part-requires : goal.scale_part-requires
scale_part-requires c = stand_end _ _ _ c.requires 0 c.requires.within.axes.least _ _ c.core_size-size.ensures c.offset-at.ensures

pub returns : goal.returns
returns c = record {
  work_value = first_scaled _ _ _ _ _ c.if-z-ne0.false c.requires.within.axes.least _ _
      (stand_scaled _ _ _ c.requires 0 c.requires.within.axes.least _ _ c.core_size-size.ensures c.offset-at.ensures _
      c.scale_part.auto.work _ _ c.scale_part.ensures.work_value)
      (stand_others _ _ _ c.requires 0 c.requires.within.axes.least _ _ c.core_size-size.ensures c.offset-at.ensures _ c.scale_part.auto.work c.scale_part.ensures.work_after);
  onward = rw c.if-z-ne0.false
      (stand_others _ _ _ c.requires 0 c.requires.within.axes.least _ _ c.core_size-size.ensures c.offset-at.ensures _
      c.scale_part.auto.work c.scale_part.ensures.work_after).onward;
}
