-- `rounding::tt_round`: refused, nothing is touched (round_stops).
use Rattle.rounding.proofs.Ends.{round_stops}
use Rattle.rounding.proofs.tt_round.Goals as goal

pub returns-in-Err : goal.returns-in-Err
returns-in-Err c = round_stops _ _ _ _ _ c.round_ok.ensures _ c.in-Err.is _ c.refused_rounding.ensures
