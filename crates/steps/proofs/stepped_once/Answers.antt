-- `steps::stepped_once`: the chain copied to scratch stands there in its own room (came_own).
use borrow.Author.Rules.{rules}
use Rattle.steps.proofs.Taken.{placed_own, came_own}
use Rattle.steps.specs.Held.{step_of}
use Rattle.steps.proofs.stepped_once.Goals as goal

pub one_step-requires : goal.one_step-requires
one_step-requires c = record {
  ready = record { ok = c.requires.s_value.0; reach = c.requires.s_value.1; carried = search rules; rooms = record { core = search rules; thrice = search rules } };
  placed = placed_own _ _ _ _ c.requires.s_value.0 c.copy.ensures c.requires.chain_len.0 (search rules) (search rules);
}

pub returns : goal.returns
returns c = came_own (step_of c.args.set c.args.xs) _ _ _ _ c.copy.ensures
    c.requires.chain_len.0 _ _ c.one_step.ensures
