-- `run_checks::numeric::numbers_found`: the first zones that fail, with the new part's put in (with_part), make the verdict (numbers_are).
-- the run as it is found
use Rattle.run_checks.proofs.Asks.{numbers_are}
use Rattle.shape.proofs.Shaped.{shaped}
use Rattle.runform.specs.Slices.{slices}
use Rattle.runform.specs.Kept.{kept_of}
use Rattle.run_checks.proofs.numeric.numbers_found.Goals as goal

pub first_out_of_order-record-requires : goal.first_out_of_order-record-requires
first_out_of_order-record-requires c = (shaped _ _ c.requires.z_lt_d.1).most

pub returns : goal.returns
returns c = numbers_are (kept_of c.args.r (slices c.args.source.now c.args.weights.now c.args.chain.now c.args.carries.now c.args.sums.now))
    c.args.z c.args.part c.args.axis _ _ _ _ c.lone_finite-lone.ensures c.is_finite-figure.ensures
    c.lone_ok-mild.ensures
    (c.numbers_ok.ensures _ _
    (c.with_part-number.ensures _ _ c.requires.z_lt_d.0
    c.first_bad_number-first.ensures)
    (c.with_part-setting.ensures _ _ c.requires.z_lt_d.0 c.first_out_of_order-record.ensures))
