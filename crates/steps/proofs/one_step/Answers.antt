-- `steps::one_step`: from zone 0 on nothing is held on the left (one_asks), and what a step from there leaves is the step of the whole chain (one_came).
use Rattle.steps.proofs.Asked.{one_asks, one_came}
use Rattle.steps.proofs.one_step.Goals as goal

pub step_from-requires : goal.step_from-requires
step_from-requires c = let q = one_asks _ _ _ _ _ _ _ _ c.requires.ready c.requires.placed _ c.unrounded.ensures in record { stands = q.0; z_le_d = q.1.0; at_zone = q.1.1 }

pub returns : goal.returns
returns c = one_came _ _ _ _ _ _ _ _ c.requires.ready c.requires.placed _
    c.unrounded.ensures _ _ _
    c.step_from.ensures.0 c.step_from.ensures.1
