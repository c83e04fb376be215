use Rattle.std.proofs.lemmas.Result.{err_from_is_err_and}
use Rattle.answers.specs.Outcome.{outcome_of}
use Rattle.passes.proofs.Rotated.{pass_held, passes_start, passes_quiet, passes_stop, passes_more, passes_done}
use Rattle.passes.proofs.careful.orthogonalize.Goals as goal

pub loop-count-init : goal.loop-count-init
loop-count-init c = record { held = c.requires; left = passes_start _ _ _ }

pub returns-then-quiet : goal.returns-then-quiet
unfolding outcome_of
returns-then-quiet c = (passes_quiet _ _ _ _ _ _ _ c.loop-count.invariant.left c.loop-count-test.true c.if-quiet.true, c.loop-count.invariant.held.kept)

pub returns-in_err-quiet : goal.returns-in_err-quiet
unfolding outcome_of
returns-in_err-quiet c =
    let p = err_from_is_err_and c.from_residual.result c.from_residual.ensures.1 in
    rw (p.1, p.2)
    (passes_stop _ _ _ _ _ _ _ c.loop-count.invariant.left c.loop-count-test.true c.if-quiet.false _ c.in_err-quiet.ensures.0, c.in_err-quiet.ensures.1)

pub loop-count-preserved : goal.loop-count-preserved
unfolding outcome_of
loop-count-preserved c = record {
  held = pass_held _ _ _ _ _ _ _ _ c.loop-count.invariant.held c.in_ok-quiet.ensures.1 _ c.in_ok-quiet.ensures.0;
  left = passes_more _ _ _ _ _ _ _ c.loop-count.invariant.left c.loop-count-test.true c.if-quiet.false _ c.in_ok-quiet.ensures.0;
}

pub returns : goal.returns
unfolding outcome_of
returns c = (passes_done _ _ _ _ _ _ _ c.loop-count.invariant.left c.loop-count.auto.count-end c.loop-count-test.false, c.loop-count.invariant.held.kept)
