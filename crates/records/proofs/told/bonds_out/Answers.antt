use Rattle.std.proofs.Common.{rules}
use Rattle.records.proofs.Mapped.{making}
use Rattle.records.proofs.told.bonds_out.Goals as goal

ruleset ways = (rules, making)

pub loop-k-init : goal.loop-k-init
loop-k-init c = search ways

pub loop-k-preserved : goal.loop-k-preserved
loop-k-preserved c = search ways

pub returns : goal.returns
returns c = search ways
