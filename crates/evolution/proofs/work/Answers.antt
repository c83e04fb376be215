-- `evolution::work`: what the steps came to lies inside the source's room (came_inside), and `finish` makes the call's end of it (work_done).
use Rattle.evolution.proofs.Calls.{came_inside, ok_sizes, finished_as, work_done}
use Rattle.stepform.proofs.Late.{late_steps}
use native.Mathlib.Omega.{arith}
use Rattle.evolution.proofs.work.Goals as goal

pub finish-requires : goal.finish-requires
finish-requires c = record {
  sizes_within = ok_sizes _ c.requires.s_value.0;
  inside = (
    came_inside _ _ _ _ _ c.stepped-w.ensures,
    omega (arith, c.requires.chain_len.0),
    omega (arith, c.requires.chain_len.1, c.stepped-w.auto.scratch),
  );
}

pub returns : goal.returns
returns c = work_done _ _ _ _ _ _ _ _ _ c.stepped-w.auto.scratch (late_steps _ _ _ _) c.stepped-w.ensures
    (finished_as _ _ _ _ _ c.finish.ensures)
