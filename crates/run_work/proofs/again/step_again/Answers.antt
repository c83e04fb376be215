-- `run_work::again::step_again`: what stands in memory is what `step_from` asks (step_asks), and what it leaves is the step of the definition (step_made).
use borrow.Author.Rules.{rules}
use Rattle.run_work.proofs.StepAgain.{mapped_long, step_asks, step_made}
use Rattle.run_work.proofs.again.step_again.Goals as goal

pub step_from-requires : goal.step_from-requires
step_from-requires c = let q = step_asks _ _ _ _ _ _ c.requires (search rules) (search rules) (search (rules, mapped_long)) _ _
    (record { core = search rules; thrice = search rules }) in record { stands = q.0; z_le_d = q.1.0; at_zone = q.1.1 }

pub returns : goal.returns
returns c = step_made _ _ _ _ _ _ c.requires
    (search (rules, c.well_formed.1.0)) (search (rules, c.well_formed.1.0)) (search (rules, c.well_formed.1.0, mapped_long)) _ _ _ c.step_from.ensures.0
