use Rattle.rotation.proofs.Angles.{eye_is}
use Rattle.rotation.proofs.eye.Goals as goal

pub returns : goal.returns
returns c = eye_is _ _ _ _ _ (c.fill.ensures.after (λ y e. e)) c.requires c.loop-i.invariant.1 c.loop-i.auto.i-end c.loop-i-test.false
