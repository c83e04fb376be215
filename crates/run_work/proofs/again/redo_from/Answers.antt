-- `run_work::again::redo_from`: a step that refuses is the answer (work_refused); otherwise the sums over what the step left are (sums_stand, sums_refused, work_done).
use native.Mathlib.Omega.{arith}
use Rattle.std.proofs.lemmas.Result.{err_from_is_err_and, IfOk-at_ok}
use Rattle.answers.specs.Outcome.{outcome_of}
use Rattle.cuts.specs.declared.Walked.{Walked}
use Rattle.run_work.specs.InPlace.{RanksWithin}
use Rattle.run_work.proofs.Work.{few_axes, sums_stand, work_refused, sums_refused, work_done}
use Rattle.run_work.proofs.again.redo_from.Goals as goal

pub returns-in_err-stepped : goal.returns-in_err-stepped
unfolding outcome_of
returns-in_err-stepped c =
    let p = err_from_is_err_and c.from_residual.result c.from_residual.ensures.1 in
    rw (p.1, p.2) (work_refused _ _ _ _ _ _ _ (c.step_again.ensures.0 c.args.weights.now) _ c.in_err-stepped.was)

pub kept_shape-t-requires : goal.kept_shape-t-requires
kept_shape-t-requires c = few_axes _ c.requires.steps.ok

pub sum_from-requires : goal.sum_from-requires
sum_from-requires c = (
  omega (arith, c.requires.steps.zone),
  c.requires.sums.summed,
  sums_stand _ c.requires.steps.ok _ (IfOk-at_ok (λ (x : Walked). RanksWithin c.args.w.shape x.bonds c.args.w.shape.d) c.in_ok-stepped.was c.step_again.ensures.1)
      _ c.kept_shape-t.ensures _ _ _ c.requires.sums (omega (arith, c.requires.steps.cores, c.step_again.auto.work)),
)

pub returns-in_err-sum_from : goal.returns-in_err-sum_from
unfolding outcome_of
returns-in_err-sum_from c =
    let p = err_from_is_err_and c.from_residual-in_err-sum_from.result c.from_residual-in_err-sum_from.ensures.1 in
    rw (p.1, p.2)
    (sums_refused _ _ _ _ _ _ _ (c.step_again.ensures.0 c.args.weights.now) _ c.in_ok-stepped.was c.requires.steps.zone _
    c.kept_shape-t.ensures _ _ c.sum_from.ensures _ c.in_err-sum_from.was)

pub returns : goal.returns
unfolding outcome_of
returns c = work_done _ _ _ _ _ _ _ (c.step_again.ensures.0 _) _ c.in_ok-stepped.was c.requires.steps.zone _
    c.kept_shape-t.ensures _ _ c.sum_from.ensures c.in_ok-sum_from.was
