use native.Mathlib.Omega.{arith}
use mathlib.Core.Path.{refl}
use Rattle.lists.proofs.Turns.{turns, from_none, from_more, from_done}
use Rattle.passes.specs.Free.{row_free}
use Rattle.passes.proofs.Spun.{none_told, moved}
use Rattle.passes.proofs.row.Goals as goal

pub following-w-requires : goal.following-w-requires
following-w-requires c = search turns

pub plan_at-k-requires : goal.plan_at-k-requires
plan_at-k-requires c = search turns

pub overflow_step-q : goal.overflow_step-q
overflow_step-q c = search turns

pub loop-q-init : goal.loop-q-init
loop-q-init c = (search turns, search turns, refl, refl, refl, c.requires.0, from_none _ _ _, moved _ _ _ _ _ _ _ c.following-w.ensures.2 c.plan_at-k.ensures)

pub step-k-requires : goal.step-k-requires
step-k-requires c = (c.loop-q.invariant.5, omega (arith, c.loop-q.invariant.1), c.loop-q-test.true, c.loop-q.invariant.7 c.loop-q-test.true)

pub overflow_step-q-in-loop-q : goal.overflow_step-q-in-loop-q
overflow_step-q-in-loop-q c = record { fits = omega (arith, c.loop-q-test.true, c.ranges) }

pub loop-q-smaller : goal.loop-q-smaller
loop-q-smaller c = search turns

pub loop-q-preserved : goal.loop-q-preserved
loop-q-preserved c = (
  search turns,
  search turns,
  search turns,
  search turns,
  search turns,
  c.step-k.ensures.beside.0,
  rw (none_told _ _ c.is_none-quiet.ensures) (from_more _ _ _ _ _ _ c.loop-q.invariant.6 (c.step-k.ensures.b_after _) c.loop-q.invariant.1),
  c.step-k.ensures.beside.1,
)

pub shape_of-a : goal.shape_of-a
shape_of-a c = search turns

pub shape_of-v : goal.shape_of-v
shape_of-v c = search turns

pub shape_of-ss : goal.shape_of-ss
shape_of-ss c = search turns

pub returns : goal.returns
unfolding row_free
returns c = (from_done _ _ _ _ _ _ c.loop-q.invariant.6 c.loop-q.invariant.0 c.loop-q-test.false, c.loop-q.invariant.5)
