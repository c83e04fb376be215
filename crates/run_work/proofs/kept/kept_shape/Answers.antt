use borrow.Author.Rules.{rules}
use Rattle.run_work.proofs.Ranked.{ranked_none, ranked_more, ranked_all}
use Rattle.run_work.proofs.kept.kept_shape.Goals as goal

ruleset ways = (rules, ranked_none, ranked_more, ranked_all)

pub loop-k-init : goal.loop-k-init
loop-k-init c = search ways

pub left_rank-requires : goal.left_rank-requires
left_rank-requires c = search ways

pub right_rank-requires : goal.right_rank-requires
right_rank-requires c = search ways

pub with_core-t-requires : goal.with_core-t-requires
with_core-t-requires c = search ways

pub loop-k-preserved : goal.loop-k-preserved
loop-k-preserved c = search ways

pub returns : goal.returns
returns c = search ways
