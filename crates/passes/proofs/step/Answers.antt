-- `passes::step`: columns and basis go by one plan (spun), and the next is made of what the columns then are (planned_at).
use native.Mathlib.Omega.{arith}
use Rattle.passes.proofs.Spun.{planned_at, moved, by_length, spun}
use Rattle.passes.proofs.step.Goals as goal

pub returns : goal.returns
returns c = record {
  b_after = λ b. spun _ _ _ _ _ _ _ _ _ c.requires.3 c.spin-alpha.ensures.0 c.turn_basis.ensures b;
  beside = (
    record { squared = c.spin-alpha.ensures.1; wide = by_length _ _ _ _ _ _ _ c.requires.0.wide c.turn_basis.ensures },
    moved _ _ _ _ _ _ _ c.following-w.ensures.2 (planned_at _ _ _ _ _ _ _ _ c.spin-alpha.ensures.1 (omega (arith, c.requires.1, c.requires.2)) c.following-w.ensures.0 c.spin-alpha.ensures.2 c.planned-next.ensures),
  );
}
