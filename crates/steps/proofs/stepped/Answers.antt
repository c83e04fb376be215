-- `steps::stepped`: the chain copied to scratch stands there in its own room (came_own).
use borrow.Author.Rules.{rules}
use Rattle.steps.proofs.Taken.{placed_own, came_own}
use Rattle.stepform.specs.Steps.{steps_of}
use Rattle.steps.proofs.stepped.Goals as goal

pub steps_in-requires : goal.steps_in-requires
steps_in-requires c = record {
  ready = record { ok = c.requires.s_value.0; reach = c.requires.s_value.1; carried = search rules; rooms = record { core = search rules; thrice = search rules } };
  placed = placed_own _ _ _ _ c.requires.s_value.0 c.copy.ensures c.requires.chain_len.0 (search rules) (search rules);
}

pub returns : goal.returns
returns c = came_own (steps_of c.args.m c.args.set c.args.xs) _ _ _ _
    c.copy.ensures
    c.requires.chain_len.0 _ _ c.steps_in.ensures
