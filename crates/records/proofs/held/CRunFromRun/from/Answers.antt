-- A run's record is made part by part (run_out_as). Assumes nothing.
use Rattle.records.proofs.Runs.{run_out_as}
use Rattle.records.proofs.held.CRunFromRun.from.Goals as goal

pub returns : goal.returns
returns c = run_out_as c.args.r _ _ _ _ c.into.ensures c.axes_out.ensures c.into-2.ensures c.bonds_out.ensures
