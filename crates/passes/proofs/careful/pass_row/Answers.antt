use mathlib.Core.Path.{refl}
use Rattle.std.specs.Prelude.{Ok}
use Rattle.std.proofs.lemmas.Result.{err_from_is_err_and}
use Rattle.answers.specs.Outcome.{staged, outcome_of}
use Rattle.lists.proofs.Stages.{stage_more, stage_done}
use Rattle.passes.specs.Loops.{pass_row}
use Rattle.passes.proofs.Rotated.{rotate_held, walk_stop}
use Rattle.passes.proofs.careful.pass_row.Goals as goal

pub loop-q-init : goal.loop-q-init
unfolding pass_row
loop-q-init c = record { held = c.requires.0; left = refl }

pub returns-in_err-quiet : goal.returns-in_err-quiet
unfolding staged outcome_of
returns-in_err-quiet c =
    let p = err_from_is_err_and c.from_residual.result c.from_residual.ensures.1 in
    rw (p.1, p.2)
    (walk_stop _ _ _ _ _ c.loop-q.invariant.left c.loop-q-test.true _ c.in_err-quiet.ensures.0, c.in_err-quiet.ensures.1)

pub loop-q-preserved : goal.loop-q-preserved
unfolding staged outcome_of
loop-q-preserved c = record {
  held = rotate_held _ _ _ _ _ _ _ _ c.loop-q.invariant.held c.in_ok-quiet.ensures.1 _ _ _ _ c.in_ok-quiet.ensures.0;
  left = stage_more _ _ _ _ _ c.loop-q.invariant.left c.loop-q-test.true (Ok tt) _ c.in_ok-quiet.ensures.0 refl;
}

pub returns : goal.returns
unfolding staged outcome_of
returns c = (stage_done _ _ _ _ _ c.loop-q.invariant.left c.loop-q-test.false, c.loop-q.invariant.held.kept)
