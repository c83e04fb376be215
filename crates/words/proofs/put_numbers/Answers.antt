use Rattle.words.proofs.Runs.{write_done}
use Rattle.words.proofs.put_numbers.Goals as goal

pub returns : goal.returns
returns c = write_done _ _ _ c.loop-i.i _ c.loop-i.invariant.1 c.loop-i.auto.i-end c.loop-i-test.false
