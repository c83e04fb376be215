-- `passes::angled`: a plan is skipped (plan_none), or made of slope, tangent and cosine (plan_turned).
use borrow.Author.Rules.{rules}
use Rattle.passes.proofs.Spun.{plan_none, plan_turned}
use Rattle.passes.proofs.angled.Goals as goal

ruleset ways = (rules, plan_none, plan_turned)

pub returns-then-skip : goal.returns-then-skip
returns-then-skip c = search ways

pub slope-requires : goal.slope-requires
slope-requires c = search ways

pub tangent-t-requires : goal.tangent-t-requires
tangent-t-requires c = search ways

pub cosine-c-requires : goal.cosine-c-requires
cosine-c-requires c = search ways

pub returns : goal.returns
returns c = search ways
