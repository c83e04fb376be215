-- `passes::two_rows`: two rows in step, then the last pair of the second (step_last).
use borrow.Author.Rules.{rules}
use native.Mathlib.Omega.{arith}
use Rattle.passes.proofs.Spun.{none_told}
use Rattle.passes.proofs.InStep.{step_last}
use Rattle.passes.proofs.two_rows.Goals as goal

pub abreast-k-requires : goal.abreast-k-requires
abreast-k-requires c = (c.lead-begun.ensures.paced.0, c.lead-begun.ensures.paced.1, c.requires.1)

pub overflow_add-p : goal.overflow_add-p
overflow_add-p c = record { fits = omega (arith, c.requires.1, c.ranges.n) }

pub overflow_sub-n : goal.overflow_sub-n
overflow_sub-n c = omega (arith, c.requires.1)

pub step-requires : goal.step-requires
step-requires c = (record { squared = c.abreast-k.ensures.paced.0.squared; wide = c.abreast-k.ensures.paced.1 }, omega (arith, c.requires.1), omega (arith, c.requires.1), c.abreast-k.ensures.paced.0.behind)

pub shape_of-a : goal.shape_of-a
shape_of-a c = search (rules, c.step.ensures.beside.0.squared.long, c.requires.0.squared.long)

pub shape_of-v : goal.shape_of-v
shape_of-v c = search (rules, c.step.ensures.beside.0.wide, c.requires.0.wide)

pub shape_of-ss : goal.shape_of-ss
shape_of-ss c = search (rules, c.step.ensures.beside.0.squared.count, c.requires.0.squared.count)

pub returns : goal.returns
returns c = record {
  result_after = rw (none_told _ _ c.is_none.ensures) (step_last _ _ _ _ _ _ c.requires.1 (c.abreast-k.ensures.quiet_after _ c.lead-begun.ensures.quiet_after) (c.step.ensures.b_after _));
  beside = c.step.ensures.beside.0;
}
