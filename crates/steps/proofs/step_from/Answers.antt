-- `steps::step_from`: moves that are refused stop it (held_stops); else the rounding of what they left is the step (held_goes), with memory still at its zone (at_again).
use Rattle.std.proofs.lemmas.Result.{err_from_is_err_and}
use Rattle.answers.specs.Outcome.{outcome_of}
use Rattle.steps.proofs.Asked.{at_again}
use Rattle.steps.proofs.Steps.{held_stops, held_goes}
use native.Mathlib.Omega.{arith}
use Rattle.steps.proofs.step_from.Goals as goal

pub returns-in_err-move_from : goal.returns-in_err-move_from
unfolding outcome_of
returns-in_err-move_from c =
    let p = err_from_is_err_and c.from_residual.result c.from_residual.ensures.1 in
    rw (p.1, p.2) (held_stops _ _ _ _ _ _ _ _ c.move_from.ensures.a_value _ c.in_err-move_from.was, λ o. tt)

pub round_from-requires : goal.round_from-requires
round_from-requires c = record {
  sizes_within = c.requires.stands.0.within;
  z_le_d = (
    c.requires.z_le_d.0,
    omega (arith, c.requires.stands.1.core, c.move_from.auto.room),
    at_again _ _ _ _ _ _
        c.requires.at_zone c.move_from.auto.work,
  );
}

pub returns : goal.returns
returns c = (
  held_goes _ _ _ _ _ _ _ _ c.move_from.ensures.a_value
      c.in_ok-move_from.was c.move_from.ensures.onward _
      c.round_from.ensures.0,
  c.round_from.ensures.1,
)
