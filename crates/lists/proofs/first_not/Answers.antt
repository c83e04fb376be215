use Rattle.std.proofs.Common.{◌≡◌, not, ap, ◌∙◌, arith}
use Rattle.lists.proofs.Demands.{passed_none, passed_more, fails_at, passed_all}
use Rattle.lists.proofs.first_not.Goals as goal

pub loop-k-init : goal.loop-k-init
loop-k-init g c q h = passed_none q c.args.n

pub returns-then-not-passes : goal.returns-then-not-passes
returns-then-not-passes g c q h =
    let told = h c.loop-k.k c.passes.result (omega arith) c.passes.ensures in
    fails_at q c.args.n c.loop-k.k c.passes.result (c.loop-k.invariant q h) (omega arith) told (ap not c.if-not-passes.true)

pub loop-k-preserved : goal.loop-k-preserved
loop-k-preserved g c q h =
    let told = h c.loop-k.k c.passes.result (omega arith) c.passes.ensures in
    passed_more q c.args.n c.loop-k.k c.passes.result (c.loop-k.invariant q h) (omega arith) told (ap not c.if-not-passes.false)

pub returns : goal.returns
returns g c q h =
    let last : c.args.n ≡ c.loop-k.k = omega arith in
    last ∙ passed_all q c.args.n c.loop-k.k (c.loop-k.invariant q h) (omega arith) (omega arith)
