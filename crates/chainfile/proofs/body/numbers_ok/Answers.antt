use borrow.Author.Rules.{rules}
use Rattle.lists.proofs.Demands.{fails_at}
use Rattle.chainfile.proofs.Bodies.{body_finite, core_wrong}
use Rattle.chainfile.proofs.body.numbers_ok.Goals as goal

pub returns-then-not-all_finite : goal.returns-then-not-all_finite
returns-then-not-all_finite c =
    let finite = body_finite _ _ _ _ _ c.loop-k.invariant.start c.core_size-size.ensures c.loop-k-test.true _ c.all_finite.ensures in
    core_wrong _ _ _ (fails_at _ _ _ _ c.loop-k.invariant.passed c.loop-k-test.true finite (search rules)) c.loop-k-test.true
