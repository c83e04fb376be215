-- `runs::replace_core`: checks that refuse leave all as it was (replace_stops); then `renew` refuses (core_refused), or the core is put in and the call ends (core_ends).
use Rattle.runform.specs.Slices.{slices}
use mathlib.Core.Path.{ap, ◌∙◌}
use Rattle.lists.specs.Floats.{zeros}
use Rattle.runform.specs.Kept.{kept_of}
use Rattle.runform.specs.Requests.{new_core}
use Rattle.runs.proofs.Replaced.{replace_stops}
use Rattle.runs.proofs.Accepts.{core_asks, core_asked}
use Rattle.runs.proofs.Renewals.{core_refused, core_ends}
use Rattle.runs.proofs.replace_core.Goals as goal

pub returns-in-Err : goal.returns-in-Err
returns-in-Err c = replace_stops (kept_of c.args.r (slices c.args.source.now c.args.weights.now c.args.chain.now c.args.carries.now c.args.sums.now))
    (new_core c.args.z c.args.part.now) c.args.scratch.now _ c.core_ok.ensures _ c.in-Err.is _
    c.refused.ensures

pub take_core-requires : goal.take_core-requires
take_core-requires c = let q = core_asks c.args.r (slices c.args.source.now c.args.weights.now c.args.chain.now c.args.carries.now c.args.sums.now) c.args.z c.args.part.now _
    _ c.core_ok.ensures c.in_default.is in record { sizes_within = q.0; z_lt_d = q.1 }

pub renew-ran-requires : goal.renew-ran-requires
renew-ran-requires c = core_asked c.args.r (slices c.args.source.now c.args.weights.now c.args.chain.now c.args.carries.now c.args.sums.now) c.args.z c.args.part.now
    _ _ c.core_ok.ensures
    c.in_default.is _
    c.take_core.auto.work

pub returns-in-Err-verdict : goal.returns-in-Err-verdict
returns-in-Err-verdict c = core_refused c.args.r c.args.z (slices c.args.source.now c.args.weights.now c.args.chain.now c.args.carries.now c.args.sums.now)
    c.args.part.now c.args.scratch.now _
    c.core_ok.ensures
    c.in_default.is _ _ _ c.renew-ran.ensures.0 c.take_core.ensures _
    (c.renew-ran.ensures.1 ∙ ap zeros c.take_core.auto.work) _ c.in-Err-verdict.is

pub put_core-requires : goal.put_core-requires
put_core-requires c = let p = core_asks c.args.r (slices c.args.source.now c.args.weights.now c.args.chain.now c.args.carries.now c.args.sums.now) c.args.z c.args.part.now _ _
    c.core_ok.ensures c.in_default.is in
    record {
      sizes_within = p.0;
      z_lt_d = (p.1.0, p.1.1, p.1.2);
    }

pub returns : goal.returns
returns c = core_ends c.args.r c.args.z (slices c.args.source.now c.args.weights.now c.args.chain.now c.args.carries.now c.args.sums.now) c.args.part.now
    c.args.scratch.now _
    c.core_ok.ensures
    c.in_default.is _ _ _ c.renew-ran.ensures.0 c.take_core.ensures _
    (c.renew-ran.ensures.1 ∙ ap zeros c.take_core.auto.work) c.in_default-verdict.is _
    c.put_core.ensures
