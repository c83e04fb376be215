-- `runs::fresh_run`: checks that refuse leave all as it was (fresh_stops); passed, they give `renew` what it asks (fresh_asked), and its work on a blank run is the call (fresh_ends).
use Rattle.runform.specs.Slices.{slices}
use mathlib.Core.Path.{ap, ◌∙◌}
use lib.ListN.{length}
use Rattle.lists.specs.Floats.{zeros}
use Rattle.runs.proofs.Accepts.{fresh_asks, fresh_asked}
use Rattle.runs.proofs.Fresh.{fresh_stops, fresh_ends}
use Rattle.runs.proofs.fresh_run.Goals as goal

pub returns-in-Err : goal.returns-in-Err
returns-in-Err c = fresh_stops c.args.s c.args.xs c.args.set (slices c.args.source.now c.args.weights.now c.args.chain.now c.args.carries.now c.args.sums.now)
    c.args.scratch.now _ c.fresh_ok.ensures _ c.blank_run-r.ensures _
    c.in-Err.is _ c.refused.ensures

pub take_sources-requires : goal.take_sources-requires
take_sources-requires c = let q = fresh_asks c.args.s c.args.xs c.args.set (slices c.args.source.now c.args.weights.now c.args.chain.now c.args.carries.now c.args.sums.now)
    (length c.args.scratch.now) _ c.fresh_ok.ensures c.in_default.is in record { sizes_within = q.0; z_le_d = q.1 }

pub renew-requires : goal.renew-requires
renew-requires c = fresh_asked c.args.s c.args.xs c.args.set (slices c.args.source.now c.args.weights.now c.args.chain.now c.args.carries.now c.args.sums.now)
    (length c.args.scratch.now) _ c.fresh_ok.ensures
    c.in_default.is _
    c.blank_run-r.ensures _
    c.take_sources.auto.work

pub returns : goal.returns
returns c = fresh_ends c.args.s c.args.xs c.args.set (slices c.args.source.now c.args.weights.now c.args.chain.now c.args.carries.now c.args.sums.now)
    c.args.scratch.now _ c.fresh_ok.ensures c.in_default.is _ c.blank_run-r.ensures _
    (fresh_asked c.args.s c.args.xs c.args.set (slices c.args.source.now c.args.weights.now c.args.chain.now c.args.carries.now c.args.sums.now)
    (length c.args.scratch.now) _ c.fresh_ok.ensures c.in_default.is _ c.blank_run-r.ensures _ c.take_sources.auto.work) _ _
    c.renew.ensures.0 c.take_sources.ensures _ (c.renew.ensures.1 ∙ ap zeros c.take_sources.auto.work)
