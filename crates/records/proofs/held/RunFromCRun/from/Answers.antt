-- A run's record is made part by part (run_in_as). Assumes nothing.
use Rattle.records.proofs.Runs.{run_in_as}
use Rattle.records.proofs.held.RunFromCRun.from.Goals as goal

pub returns : goal.returns
returns c = run_in_as c.args.r _ _ _ _ c.into.ensures c.axes_in.ensures c.into-2.ensures c.bonds_in.ensures
