use borrow.Author.Rules.{rules}
use Rattle.columns.proofs.Strips.{runs}
use Rattle.columns.proofs.turn_strips.Goals as goal

ruleset ways = (rules, runs)

pub loop-k-init : goal.loop-k-init
loop-k-init c = search ways

pub loop-k-preserved : goal.loop-k-preserved
loop-k-preserved c = search ways

pub returns : goal.returns
returns c = search ways
