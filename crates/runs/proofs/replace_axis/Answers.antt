-- `runs::replace_axis`: checks that refuse leave all as it was (replace_stops); then `renew` on the run with the new axis refuses (axis_refused) or ends the call (axis_ends).
use Rattle.runform.specs.Slices.{slices}
use mathlib.Core.Path.{ap, ◌∙◌}
use Rattle.lists.specs.Floats.{zeros}
use Rattle.runform.specs.Kept.{kept_of}
use Rattle.runform.specs.Requests.{new_axis}
use Rattle.runs.proofs.Replaced.{replace_stops}
use Rattle.runs.proofs.Accepts.{axis_asks, axis_few, axis_asked}
use Rattle.runs.proofs.Renewals.{axis_refused, axis_ends}
use Rattle.runs.proofs.replace_axis.Goals as goal

pub returns-in-Err : goal.returns-in-Err
returns-in-Err c = replace_stops (kept_of c.args.r (slices c.args.source.now c.args.weights.now c.args.chain.now c.args.carries.now c.args.sums.now))
    (new_axis c.args.z c.args.x) c.args.scratch.now _ c.axis_ok.ensures _ c.in-Err.is _
    c.refused.ensures

pub take_sources-requires : goal.take_sources-requires
take_sources-requires c = let q = axis_asks c.args.r (slices c.args.source.now c.args.weights.now c.args.chain.now c.args.carries.now c.args.sums.now) c.args.z c.args.x _ _
    c.axis_ok.ensures c.in_default.is in record { sizes_within = q.0; z_le_d = q.1 }

pub with_axis-anew-requires : goal.with_axis-anew-requires
with_axis-anew-requires c = axis_few c.args.r (slices c.args.source.now c.args.weights.now c.args.chain.now c.args.carries.now c.args.sums.now) c.args.z c.args.x _ _
    c.axis_ok.ensures c.in_default.is

pub renew-ran-requires : goal.renew-ran-requires
renew-ran-requires c = axis_asked c.args.r (slices c.args.source.now c.args.weights.now c.args.chain.now c.args.carries.now c.args.sums.now) c.args.z c.args.x _ _
    c.axis_ok.ensures
    c.in_default.is _
    c.with_axis-anew.ensures _ c.take_sources.auto.work

pub shape_of-scratch-in-Err-verdict : goal.shape_of-scratch-in-Err-verdict
shape_of-scratch-in-Err-verdict c = c.renew-ran.auto.scratch ∙ c.take_sources.auto.work

pub returns-in-Err-verdict : goal.returns-in-Err-verdict
returns-in-Err-verdict c = axis_refused c.args.r c.args.z c.args.x (slices c.args.source.now c.args.weights.now c.args.chain.now c.args.carries.now c.args.sums.now)
    c.args.scratch.now _
    c.axis_ok.ensures
    c.in_default.is _
    c.with_axis-anew.ensures _ _ _ c.renew-ran.ensures.0 c.take_sources.ensures _
    (c.renew-ran.ensures.1 ∙ ap zeros c.take_sources.auto.work) _ c.in-Err-verdict.is _ c.refused-in-Err-verdict.ensures

pub returns : goal.returns
returns c = axis_ends c.args.r c.args.z c.args.x (slices c.args.source.now c.args.weights.now c.args.chain.now c.args.carries.now c.args.sums.now)
    c.args.scratch.now _
    c.axis_ok.ensures
    c.in_default.is _
    c.with_axis-anew.ensures _ _ _
    c.renew-ran.ensures.0 c.take_sources.ensures _ (c.renew-ran.ensures.1 ∙ ap zeros c.take_sources.auto.work)
    c.in_default-verdict.is
