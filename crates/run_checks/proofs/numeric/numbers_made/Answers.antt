-- `run_checks::numeric::numbers_made`: the first zones that fail make the verdict (made_are).
use Rattle.run_checks.proofs.Asks.{made_are}
use Rattle.run_checks.proofs.numeric.numbers_made.Goals as goal

pub returns : goal.returns
returns c = made_are (record { shape = c.args.s; axes = c.args.xs; set = c.args.set; source = c.args.source.now; weights = c.args.weights.now }) _ _ _
    c.lone_finite-lone.ensures c.lone_ok-mild.ensures
    (c.numbers_ok.ensures _ _ c.first_bad_made-number.ensures c.first_out_of_order-setting.ensures)
