use mathlib.Core.Path.{refl}
use Rattle.std.specs.Prelude.{Ok}
use Rattle.std.proofs.lemmas.Result.{err_from_is_err_and}
use Rattle.answers.specs.Outcome.{staged, outcome_of}
use Rattle.lists.proofs.Stages.{stage_more, stage_done}
use Rattle.passes.proofs.Rotated.{row_held, pass_rows, walk_stop}
use Rattle.passes.proofs.careful.pass.Goals as goal

pub loop-p-init : goal.loop-p-init
loop-p-init c = record { held = c.requires; left = pass_rows _ _ _ }

pub returns-in_err-quiet : goal.returns-in_err-quiet
unfolding staged outcome_of
returns-in_err-quiet c =
    let p = err_from_is_err_and c.from_residual.result c.from_residual.ensures.1 in
    rw (p.1, p.2)
    (walk_stop _ _ _ _ _ c.loop-p.invariant.left c.loop-p-test.true _ c.in_err-quiet.ensures.0, c.in_err-quiet.ensures.1)

pub loop-p-preserved : goal.loop-p-preserved
unfolding staged outcome_of
loop-p-preserved c = record {
  held = row_held _ _ _ _ _ _ _ _ c.loop-p.invariant.held c.in_ok-quiet.ensures.1 _ _ _ c.in_ok-quiet.ensures.0;
  left = stage_more _ _ _ _ _ c.loop-p.invariant.left c.loop-p-test.true (Ok tt) _ c.in_ok-quiet.ensures.0 refl;
}

pub returns : goal.returns
unfolding staged outcome_of
returns c = (stage_done _ _ _ _ _ c.loop-p.invariant.left c.loop-p-test.false, c.loop-p.invariant.held.kept)
