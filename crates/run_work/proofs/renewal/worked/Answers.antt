-- `run_work::renewal::worked`: carry and sum taken give `redo_from` what it asks (redo_asks); a refusal leaves the run as it was (renew_stops), otherwise all three lists are committed (renew_fits).
use borrow.Author.Rules.{rules}
use mathlib.Core.Path.{◌∙◌}
use Rattle.run_work.proofs.Renews.{carry_asks, sum_asks, redo_asks, commit_asks, renew_stops, renew_fits}
use Rattle.run_work.proofs.renewal.worked.Goals as goal

pub take_carry-requires : goal.take_carry-requires
take_carry-requires c = let q = carry_asks _ _ _ _ _ c.requires _ _ (search rules) (search rules) in record { sizes_within = q.0; z_lt_d = q.1 }

pub take_sum-requires : goal.take_sum-requires
take_sum-requires c = let q = sum_asks _ _ _ _ _ c.requires _ (search rules) in record { sizes_within = q.0; z_lt_d = q.1 }

pub redo_from-redone-requires : goal.redo_from-redone-requires
redo_from-redone-requires c = let q = redo_asks _ _ _ _ _
    c.requires _ c.walked_of.ensures _ _
    (c.take_carry.auto.held ∙ (search rules))
    (c.take_sum.auto.summed ∙ (search rules)) in record { steps = q.0; sums = q.1 }

pub returns-in-Err : goal.returns-in-Err
returns-in-Err c = renew_stops _ _ _ _ _
    c.requires _
    c.walked_of.ensures _ _
    (c.take_carry.auto.held ∙ (search rules)) (c.take_sum.auto.summed ∙ (search rules)) c.take_carry.ensures
    c.take_sum.ensures c.redo_from-redone.result _ _ _ c.redo_from-redone.ensures _ c.in-Err.is _ c.refused.ensures

pub commit-figure-requires : goal.commit-figure-requires
commit-figure-requires c = let q = commit_asks _ _ _ _ _
    c.requires _ _ _
    c.redo_from-redone.auto.work
    (c.redo_from-redone.auto.carries ∙ c.take_carry.auto.held ∙ (search rules))
    (c.redo_from-redone.auto.sums ∙ c.take_sum.auto.summed ∙ (search rules)) in record { sizes_within = q.0; chain_len = q.1.0; chain_in_bounds = q.1.1 }

pub shape_of-scratch : goal.shape_of-scratch
shape_of-scratch c = c.redo_from-redone.auto.work

pub returns : goal.returns
returns c = renew_fits _ _ _ _ _
    c.requires _
    c.walked_of.ensures _ _ (c.take_carry.auto.held ∙ (search rules))
    (c.take_sum.auto.summed ∙ (search rules)) c.take_carry.ensures c.take_sum.ensures c.redo_from-redone.result _ _ _
    c.redo_from-redone.ensures
    _ c.in-Ok.is _ _ _ _
    c.commit-figure.ensures _ c.fitted.ensures
