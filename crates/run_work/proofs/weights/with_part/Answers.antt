-- `run_work::weights::with_part`: the weights copied, and the part over those of zone z, are the weights with the part put in (front_in).
use native.Mathlib.Omega.{arith}
use Rattle.run_work.proofs.Placed.{part_ends, front_in}
use Rattle.run_work.proofs.weights.with_part.Goals as goal

pub put_at-requires-2 : goal.put_at-requires-2
put_at-requires-2 c = omega (
  arith,
  part_ends c.args.s c.args.z c.args.part.now c.args.weights.now c.requires.z_lt_d.0 c.requires.z_lt_d.1 c.requires.z_lt_d.2 _
      c.points_offset-at.ensures,
  c.requires.z_lt_d.3,
  c.put_at.auto,
)

pub returns : goal.returns
returns c = front_in c.args.s c.args.z c.args.part.now c.args.weights.now c.requires.z_lt_d.0 c.requires.z_lt_d.1 c.requires.z_lt_d.2 _
    c.points_offset-at.ensures _ _ _ c.put_at.ensures
    c.put_at-2.ensures
