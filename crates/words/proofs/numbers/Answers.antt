use borrow.Author.Rules.{rules}
use native.Mathlib.Omega.{arith}
use Rattle.lists.proofs.Over.{tabs_more}
use Rattle.words.proofs.Runs.{numbers_done}
use Rattle.words.proofs.numbers.Goals as goal

pub loop-i-preserved : goal.loop-i-preserved
loop-i-preserved c = (search rules, tabs_more _ c.args.out.now c.loop-i.i _ _ c.loop-i.invariant.1 (omega arith) c.f64_at.ensures)

pub returns : goal.returns
returns c = numbers_done _ _ c.args.out.now c.loop-i.i _ c.loop-i.invariant.1 c.loop-i-test.false
