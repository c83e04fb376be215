-- `passes::both`: columns and basis go by the same two plans (both_spun).
use mathlib.Core.Path.{refl}
use Rattle.passes.proofs.Spun.{by_length}
use Rattle.passes.proofs.InStep.{both_spun}
use Rattle.passes.proofs.both.Goals as goal

pub returns : goal.returns
returns c = record {
  quiet_after = both_spun _ _ _ _ _ _ _ _ _ _ _ c.requires.2 c.requires.3 c.requires.0 c.spin_two-next.ensures.a_after c.turn_two.ensures c.spin_two-next.ensures.paced.1;
  paced = (c.spin_two-next.ensures.paced.0, by_length _ _ _ _ _ _ _ (by_length _ _ _ _ _ _ _ c.requires.1 refl) c.turn_two.ensures);
}
