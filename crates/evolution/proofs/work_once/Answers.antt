-- `evolution::work_once`: what the step came to lies inside the source's room (came_inside), and `finish` makes the call's end of it (work_done).
use Rattle.evolution.proofs.Calls.{late_once, came_inside, ok_sizes, finished_as, work_done}
use native.Mathlib.Omega.{arith}
use Rattle.evolution.proofs.work_once.Goals as goal

pub finish-requires : goal.finish-requires
finish-requires c = record {
  sizes_within = ok_sizes _ c.requires.s_value.0;
  inside = (
    came_inside _ _ _ _ _ c.stepped_once-w.ensures,
    omega (arith, c.requires.chain_len.0),
    omega (arith, c.requires.chain_len.1, c.stepped_once-w.auto.scratch),
  );
}

pub returns : goal.returns
returns c = work_done _ _ _ _ _ _ _ _ _ c.stepped_once-w.auto.scratch (late_once _ _ _) c.stepped_once-w.ensures
    (finished_as _ _ _ _ _ c.finish.ensures)
