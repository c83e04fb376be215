use mathlib.Core.Path.{refl, ◌∙◌}
use Rattle.steps.proofs.Passes.{stands_on, rooms_on, reach_of, onward_both, shifting_none, onward_on, shifting_more, moving_stop, moving_done}
use native.Mathlib.Omega.{arith}
use Rattle.std.proofs.lemmas.Result.{err_from_is_err_and}
use Rattle.steps.proofs.shifts.move_from.Goals as goal

pub loop-k-init : goal.loop-k-init
loop-k-init c = (shifting_none _ _ _ _ _ _ c.requires.z_le_d.0, refl, refl)

pub axis_in-x-requires : goal.axis_in-x-requires
axis_in-x-requires c = omega (arith, c.loop-k-test.true, c.requires.stands.0.within.axes.most)

pub shift_zone-requires : goal.shift_zone-requires
shift_zone-requires c = record {
  stands = (stands_on _ _ _ _ c.requires.stands.0 c.loop-k.invariant.0.long, rooms_on _ _ _ _ c.requires.stands.1 c.loop-k.invariant.1 c.loop-k.invariant.2);
  k_lt_d = (
    c.loop-k-test.true,
    reach_of c.args.set _ _ _ _
        c.axis_in-x.ensures (c.requires.z_le_d.1 _ c.loop-k.invariant.0.low c.loop-k-test.true),
  );
}

pub returns-in_err-shift_zone : goal.returns-in_err-shift_zone
returns-in_err-shift_zone c = record {
  a_value = let p = err_from_is_err_and c.from_residual.result c.from_residual.ensures.1 in
      rw (p.1, p.2)
      (moving_stop _ _ _ _ _ _ _ _ c.loop-k.invariant.0
      c.loop-k-test.true _
      c.axis_in-x.ensures _ _
      c.shift_zone.ensures.x_value _ c.in_err-shift_zone.was _ _);
  onward = onward_on _ _ _ _ _ _ _ _ c.loop-k.invariant.0 _ c.shift_zone.ensures.elsewhere;
}

pub loop-k-preserved : goal.loop-k-preserved
loop-k-preserved c = (
  shifting_more _ _ _ _ _ _ _ _ c.loop-k.invariant.0
      c.loop-k-test.true _
      c.axis_in-x.ensures _ _ c.shift_zone.ensures.x_value
      c.in_ok-shift_zone.was c.shift_zone.auto.work c.shift_zone.ensures.elsewhere,
  c.shift_zone.auto.room ∙ c.loop-k.invariant.1,
  c.shift_zone.auto.block ∙ c.loop-k.invariant.2,
)

pub scale_from-requires : goal.scale_from-requires
scale_from-requires c = stands_on _ _ _ _ c.requires.stands.0 c.loop-k.invariant.0.long

pub returns : goal.returns
returns c = record {
  a_value = moving_done _ _ _ _ _ _ _ _ c.loop-k.invariant.0 c.loop-k-test.false _ _ c.scale_from.ensures.work_value;
  onward = onward_both _ _ _ _ _ c.loop-k.invariant.0.onward c.scale_from.ensures.onward;
}
