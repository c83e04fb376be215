-- `passes::two_angles`: each plan is made of its own slope, tangent and cosine (plan_turned).
use Rattle.passes.proofs.Spun.{plan_turned}
use mathlib.Core.Path.{refl, sym}
use mathlib.Core.Bool.{false}
use Rattle.passes.proofs.two_angles.Goals as goal

pub returns : goal.returns
returns c = (
  plan_turned _ _ _ false _ _ _ (sym c.requires.0) refl c.slope-x.ensures c.tangent-t.ensures c.cosine-c.ensures,
  plan_turned _ _ _ false _ _ _ (sym c.requires.1) refl c.slope-y.ensures c.tangent-u.ensures c.cosine-d.ensures,
  refl,
)
