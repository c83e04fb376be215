-- `run_work::weights::sums_anew`: with the part among the weights the zones stand (stands), and the sums from z on are made beside the held ones (summed_front).
use native.Mathlib.Omega.{arith}
use Rattle.shape.proofs.Offsets.{all_points_most}
use Rattle.run_work.proofs.Placed.{stands, summed_front}
use Rattle.run_work.proofs.weights.sums_anew.Goals as goal

pub with_part-requires : goal.with_part-requires
with_part-requires c = record {
  points_within = c.requires.sizes_within.0.axes;
  z_lt_d = (c.requires.z_lt_d.0, c.requires.z_lt_d.1, c.requires.z_lt_d.2, omega (arith, c.requires.z_lt_d.2, all_points_most _ c.requires.sizes_within.0.axes));
}

pub slice_bounds-sum_from-end : goal.slice_bounds-sum_from-end
slice_bounds-sum_from-end c = omega (arith, c.requires.z_lt_d.2, all_points_most _ c.requires.sizes_within.0.axes, c.with_part.auto)

pub sum_from-requires : goal.sum_from-requires
sum_from-requires c = (
  omega (arith, c.requires.z_lt_d.0),
  omega (arith, c.requires.sums_len.0),
  stands _ _ _ _ _ _ _ c.requires.sizes_within.0 c.requires.sizes_within.1 c.requires.sizes_within.2 c.requires.z_lt_d.0
      c.requires.z_lt_d.1 c.requires.z_lt_d.2 c.with_part.ensures,
)

pub returns : goal.returns
returns c = summed_front c.args.s c.args.t c.args.z c.args.chain.now _ c.args.sums.now _ _ _
    c.put_at.ensures _ _
    c.with_part.ensures c.sum_from.ensures
    c.sum_from.auto.sums
