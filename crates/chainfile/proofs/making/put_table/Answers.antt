use borrow.Author.Rules.{rules}
use Rattle.chainfile.proofs.Bodies.{bodies_more}
use Rattle.chainfile.proofs.Makes.{table_more}
use Rattle.chainfile.proofs.making.put_table.Goals as goal

pub loop-k-preserved : goal.loop-k-preserved
loop-k-preserved c = record {
  start = search (rules, bodies_more);
  stand = table_more _ _ c.loop-k.k _ _ _ c.loop-k.invariant.stand c.entry_bytes.ensures c.loop-k-test.true c.requires.d_in_bounds c.put.ensures;
}
