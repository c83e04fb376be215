-- `passes::spin_two`: the plan of the second pair outlasts the first turn, and the next plans are made after both (next_paced).
use mathlib.Core.Path.{◌∙◌, ap}
use Rattle.passes.specs.Free.{by_plan}
use Rattle.passes.proofs.Spun.{none_told}
use Rattle.passes.proofs.InStep.{next_paced}
use Rattle.passes.proofs.spin_two.Goals as goal

pub returns : goal.returns
returns c = record {
  a_after = c.spin-beta.ensures.0 ∙ ap (by_plan _ _ _ _ _) c.spin-alpha.ensures.0;
  paced = (
    next_paced _ _ _ _ _ _ _ _ _ _ _ c.requires.1 c.requires.2 c.following-w.ensures.0 c.following-w.ensures.1 c.following-w.ensures.2 c.requires.0
        c.spin-alpha.ensures.0 c.spin-beta.ensures.0 _ _ _ c.spin-beta.ensures.1 c.spin-alpha.ensures.2 c.spin-beta.ensures.2 c.next_pace.ensures.planned c.next_pace.ensures.planned_2.0,
    c.next_pace.ensures.planned_2.1 ∙ rw (none_told _ _ c.is_none.ensures, none_told _ _ c.is_none-2.ensures),
  );
}
