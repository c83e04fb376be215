use native.Mathlib.Omega.{arith}
use native.Mathlib.Nat.{le_antisymm}
use mathlib.Core.Path.{refl}
use Rattle.lists.proofs.Turns.{turns}
use Rattle.passes.proofs.InStep.{step_more}
use Rattle.passes.proofs.abreast.Goals as goal

pub overflow_step-q : goal.overflow_step-q
overflow_step-q c = search turns

pub loop-q-init : goal.loop-q-init
loop-q-init c = (omega (arith, c.requires.2), search turns, refl, refl, refl, c.requires.0, c.requires.1, λ x e. e)

pub both-k-requires : goal.both-k-requires
both-k-requires c = (c.loop-q.invariant.5, c.loop-q.invariant.6, c.loop-q.invariant.1, c.loop-q-test.true)

pub overflow_step-q-in-loop-q : goal.overflow_step-q-in-loop-q
overflow_step-q-in-loop-q c = record { fits = omega (arith, c.loop-q-test.true, c.ranges) }

pub loop-q-smaller : goal.loop-q-smaller
loop-q-smaller c = search turns

pub loop-q-preserved : goal.loop-q-preserved
loop-q-preserved c = (
  search turns,
  search turns,
  search turns,
  search turns,
  search turns,
  c.both-k.ensures.paced.0,
  c.both-k.ensures.paced.1,
  λ x e. step_more _ _ _ _ x _ _ c.loop-q.invariant.1 c.loop-q-test.true (c.loop-q.invariant.7 x e) c.both-k.ensures.quiet_after,
)

pub shape_of-a : goal.shape_of-a
shape_of-a c = search turns

pub shape_of-v : goal.shape_of-v
shape_of-v c = search turns

pub shape_of-ss : goal.shape_of-ss
shape_of-ss c = search turns

pub returns : goal.returns
returns c = let z = le_antisymm c.loop-q.invariant.0 c.loop-q-test.false in
    record {
      quiet_after = λ x e. rw z at (c.loop-q.invariant.7 x e);
      paced = (rw z at c.loop-q.invariant.5, c.loop-q.invariant.6);
    }
