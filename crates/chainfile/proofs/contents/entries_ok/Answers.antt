use Rattle.chainfile.proofs.Tables.{entries_none}
use Rattle.chainfile.proofs.contents.entries_ok.Goals as goal

pub loop-k-init : goal.loop-k-init
loop-k-init c = entries_none _ _ c.requires.0
