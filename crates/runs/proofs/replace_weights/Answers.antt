-- `runs::replace_weights`: checks that refuse leave all as it was (replace_stops); then `resummed` and the cleared scratch are the call's end (weights_worked).
use Rattle.runform.specs.Slices.{slices}
use mathlib.Core.Path.{refl}
use Rattle.runform.specs.Kept.{kept_of}
use Rattle.runform.specs.Requests.{new_weights}
use Rattle.runs.proofs.Replaced.{replace_stops}
use Rattle.runs.proofs.Reweighed.{weights_lent, weights_worked}
use Rattle.runs.proofs.replace_weights.Goals as goal

pub returns-in-Err : goal.returns-in-Err
returns-in-Err c = replace_stops (kept_of c.args.r (slices c.args.source.now c.args.weights.now c.args.chain.now c.args.carries.now c.args.sums.now))
    (new_weights c.args.z c.args.part.now) c.args.scratch.now _ c.weights_ok.ensures _
    c.in-Err.is _ c.refused.ensures

pub resummed-ran-requires : goal.resummed-ran-requires
resummed-ran-requires c = let q = weights_lent c.args.r c.args.z (slices c.args.source.now c.args.weights.now c.args.chain.now c.args.carries.now c.args.sums.now)
    c.args.part.now c.args.scratch.now _ c.weights_ok.ensures c.in_default.is in record { bonds_value = q.0; lent = q.1 }

pub returns : goal.returns
returns c = weights_worked c.args.r c.args.z (slices c.args.source.now c.args.weights.now c.args.chain.now c.args.carries.now c.args.sums.now)
    c.args.part.now c.args.scratch.now _
    c.weights_ok.ensures
    c.in_default.is _ _ _ _
    (c.resummed-ran.ensures c.args.source.now c.args.carries.now
    c.args.scratch.now) c.fill.ensures refl
