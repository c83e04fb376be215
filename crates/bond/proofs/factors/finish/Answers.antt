use Rattle.bond.proofs.Finished.{finish_done}
use Rattle.bond.proofs.factors.finish.Goals as goal

pub returns : goal.returns
returns c = finish_done _ _ _ c.args.ss.now _ c.requires.0 _ _ c.loop-j.invariant c.loop-j.auto.j-end c.loop-j-test.false
