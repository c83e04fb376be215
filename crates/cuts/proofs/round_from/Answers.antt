use native.Mathlib.Omega.{arith}
use Prim.Native.Nat.{◌<◌}
use lib.ListN.{length}
use Rattle.std.proofs.lemmas.Result.{err_from_is_err_and}
use Rattle.answers.specs.Outcome.{outcome_of}
use Rattle.cuts.proofs.From.{from_is, at_any, loop_more, loop_stop, loop_next, loop_end, end_inside}
use Rattle.cuts.proofs.Stands.{zone_turned_lem, zone_stopped, rank_carried}
use Rattle.cuts.proofs.round_from.Goals as goal

pub left_rank-r-requires : goal.left_rank-r-requires
left_rank-r-requires c = omega (arith, c.requires.sizes_within.axes.most, c.requires.z_le_d.0)

pub loop-k-init : goal.loop-k-init
loop-k-init c = record { rank = λ l. c.left_rank-r.ensures; zone = c.requires.z_le_d.2; left = from_is _ _ _ _ _ _ c.requires.z_le_d.0 c.requires.z_le_d.2 }

pub zone_cut-requires : goal.zone_cut-requires
zone_cut-requires c = record {
  sizes_within = c.requires.sizes_within;
  k_lt_d = (c.loop-k-test.true, omega (arith, c.requires.z_le_d.1, c.loop-k.auto.room), record { bonds = _; left = c.loop-k.invariant.rank c.loop-k-test.true; zone = at_any _ _ _ _ _ c.loop-k.invariant.zone });
}

pub returns-in_err-cut : goal.returns-in_err-cut
unfolding outcome_of
returns-in_err-cut c =
    let p = err_from_is_err_and c.from_residual.result c.from_residual.ensures.1 in
    let zone = c.zone_cut.ensures (record { bonds = _; left = c.loop-k.invariant.rank c.loop-k-test.true; zone = at_any _ _ _ _ _ c.loop-k.invariant.zone }) in
    let turn = zone_stopped _ _ _ _ _ _ _ _ zone _ c.in_err-cut.was in
    rw (p.1, p.2) (loop_stop _ _ _ c.args.z _ _ _ c.loop-k.invariant.left c.loop-k-test.true _ turn, λ o. tt)

pub with_core-shape-requires : goal.with_core-shape-requires
with_core-shape-requires c = omega (arith, c.requires.sizes_within.axes.most, c.loop-k-test.true)

pub offset_bounds-bonds-k : goal.offset_bounds-bonds-k
offset_bounds-bonds-k c = record { fits = omega (arith, c.requires.sizes_within.axes.most, c.loop-k-test.true) }

pub bounds-bonds-k : goal.bounds-bonds-k
bounds-bonds-k c = omega (arith, c.requires.sizes_within.axes.most, c.loop-k-test.true)

pub offset_bounds-bonds-k-in-loop-k : goal.offset_bounds-bonds-k-in-loop-k
offset_bounds-bonds-k-in-loop-k c = record { fits = omega (arith, c.requires.sizes_within.axes.most, c.loop-k-test.true) }

pub bounds-bonds-k-in-loop-k : goal.bounds-bonds-k-in-loop-k
bounds-bonds-k-in-loop-k c = omega (arith, c.requires.sizes_within.axes.most, c.loop-k-test.true)

pub loop-k-preserved : goal.loop-k-preserved
loop-k-preserved c =
    let zone = c.zone_cut.ensures (record { bonds = _; left = c.loop-k.invariant.rank c.loop-k-test.true; zone = at_any _ _ _ _ _ c.loop-k.invariant.zone }) in
    let room : c.loop-k.k < length c.loop-k.bonds = omega (arith, c.loop-k.invariant.zone.bonds, c.requires.sizes_within.axes.most, c.loop-k-test.true) in
    let turn = zone_turned_lem _ _ _ _ _ _ _ _ zone _ c.in_ok-cut.was c.loop-k-test.true room _
    (c.loop-k.invariant.rank c.loop-k-test.true) _ c.with_core-shape.ensures _ c.placed.ensures in
    record {
      rank = λ m. rank_carried _ _ _ _ _ _ _ _ zone _ c.in_ok-cut.was c.loop-k-test.true room _ c.placed.ensures _ m;
      zone = loop_next _ _ _ c.args.z _ _ _ c.loop-k.invariant.left c.loop-k-test.true _ _ turn c.loop-k.invariant.zone;
      left = loop_more _ _ _ c.args.z _ _ _ c.loop-k.invariant.left c.loop-k-test.true _ _ turn;
    }

pub returns : goal.returns
unfolding outcome_of
returns c = (loop_end _ _ _ c.args.z _ _ _ c.loop-k.invariant.left c.loop-k-test.false, λ o. end_inside _ _ _ _ _ c.loop-k.invariant.zone c.loop-k-test.false o)
