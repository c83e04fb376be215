-- Every case comes out as it is written, those at the edges too, by computation. Assumes nothing.
use mathlib.Core.Path.{refl}
use lib.Ieee.{add, sub, mul, div, neg, lt, le, eq, of_int, of_bits, to_bits}
use Rattle.answers.specs.Outcome.{demand, demand_each}
use Rattle.numbers.specs.Residues.{wrap}
use Rattle.numbers.specs.Root.{root_in, whole_root, root_of_units, root_of}
use Rattle.numbers.specs.Whole.{whole_of, fraction_of}
use Rattle.lists.specs.Floats.{sum_on, sum_to, sum_rows, all_finite, first_not_finite, stored}
use Rattle.lists.specs.Lists.{pick, listed, flat, first, count, pairs, folded}
use Rattle.lists.specs.Slots.{offset, slot, put, fit, laid, write}
use Rattle.lists.specs.Walks.{along, every, walk}
use Rattle.shape.specs.Cores.{place, entry, block, core_at, points_at}
use Rattle.shape.specs.Shapes.{size_ok, bond_ok, shape_ok, core_size, point_size}
use Rattle.stepform.specs.Boundaries.{boundary_ok, reflected, wrapped}
use Rattle.stepform.specs.Axes.{axis_finite, axis_ok}
use Rattle.stepform.specs.Shifts.{distance, spacing, shift_of, shifted, scaled}
use Rattle.stepform.specs.Weights.{cubic_band_weights, band_on, shifted_at}
use Rattle.cutform.specs.Bonds.{gram, cut_bond, absorb}
use Rattle.cutform.specs.Factors.{left_factor, carry_of}
use Rattle.cutform.specs.Rotation.{eye}
use Rattle.cutform.specs.Modes.{mode_ok, off_sum, diagonal_sum, small_beside, settled, divided}
use Rattle.cutform.specs.Sweeps.{sweeps_from, diagonalized}
use Rattle.cutform.specs.Values.{singular_of, singulars, place_in, index_at, order, sorted, threshold_of, kept_rank, dropped_from}
use Rattle.cutform.specs.Call.{core_finite, not_below_zero, cutting_finite, cutting_ok, scratch_after}
use Rattle.cutform.specs.Rounding.{round_core}
use Rattle.sumform.specs.Contract.{contract}
use Rattle.sumform.specs.Product.{contract_at}
use Rattle.stepform.specs.Call.{reaches_at}
use Rattle.stepform.specs.Steps.{shift_zone, scale_zone, round_zone, step_from}
use Rattle.stepform.specs.Zones.{rules}
use Rattle.sumform.specs.Sums.{sum_size}
use Rattle.runform.specs.Kept.{bare, blank, zone_at, held_core, carry_at, sums_at, weighed_at}
use Rattle.cutform.specs.Keeping.{bond_size, carry_size, keep_step}
use Rattle.runform.specs.Work.{keep_sums, sum_zone, restep, resum, sum_from, work_from}
use Rattle.stepform.specs.Lone.{lone_finite, lone_ok}
use Rattle.runform.specs.Checks.{rank_ok, lent_from, scratch_lent, made_finite, core_held, carry_held, sums_held, dropped_held, held_finite, made_ok, fresh_ok, fresh_run}
use Rattle.runform.specs.Requests.{found_ok, found_numbers, numbers_ok, replace_ok, replace}
use Rattle.runform.specs.Call.{room_lent, run_end, fresh_by, replace_by}
use Rattle.runform.specs.Cases.{cases, AllRight}
use Rattle.runform.specs.Edges.{fresh_edges, replaced_edges, boundary_edges, mode_edges, RefusedFresh}

pub record Computed : Type 0 where
  pub right : AllRight cases
  pub fresh_edges_lem : AllRight fresh_edges
  pub replaced_edges_lem : AllRight replaced_edges
  pub boundary_edges_lem : AllRight boundary_edges
  pub mode_edges_lem : AllRight mode_edges
  pub refused_fresh : RefusedFresh

pub computed : Computed
unfolding cases fresh_edges replaced_edges boundary_edges mode_edges add sub mul div neg lt le eq of_int of_bits to_bits demand demand_each wrap whole_of fraction_of root_in whole_root
    root_of_units root_of sum_on sum_to sum_rows all_finite first_not_finite stored pick listed flat first count pairs folded offset slot put fit laid write along
    every walk place entry block core_at points_at size_ok bond_ok shape_ok core_size point_size boundary_ok reflected wrapped axis_finite axis_ok distance spacing shift_of shifted
    cubic_band_weights band_on shifted_at scaled gram divided left_factor carry_of cut_bond absorb eye off_sum diagonal_sum small_beside settled sweeps_from diagonalized singular_of singulars
    place_in index_at order sorted threshold_of kept_rank dropped_from core_finite not_below_zero cutting_finite cutting_ok mode_ok scratch_after round_core contract contract_at reaches_at shift_zone scale_zone
    round_zone step_from rules bond_size carry_size sum_size bare blank zone_at held_core carry_at sums_at weighed_at keep_step keep_sums sum_zone restep resum sum_from
    work_from rank_ok lent_from scratch_lent lone_finite made_finite core_held carry_held sums_held dropped_held held_finite lone_ok made_ok fresh_ok fresh_run found_ok found_numbers
    numbers_ok replace_ok replace room_lent run_end fresh_by replace_by
computed = record {
  right = (refl, (refl, (refl, (refl, (refl, (refl, (refl, (refl, (refl, (refl, (refl, (refl, (refl, (refl, (refl, (refl, (refl, (refl, (refl, (refl, (refl, tt)))))))))))))))))))));
  fresh_edges_lem = (refl, (refl, (refl, (refl, (refl, (refl, (refl, (refl, (refl, (refl, (refl, tt)))))))))));
  replaced_edges_lem = (refl, (refl, (refl, (refl, (refl, (refl, (refl, (refl, (refl, (refl, (refl, (refl, (refl, (refl, (refl, (refl, (refl, (refl, (refl, (refl, (refl, (refl, (refl, (refl, (refl, (refl, (refl, (refl, tt))))))))))))))))))))))))))));
  boundary_edges_lem = (refl, (refl, (refl, (refl, (refl, (refl, tt))))));
  mode_edges_lem = (refl, (refl, (refl, (refl, (refl, (refl, (refl, (refl, (refl, (refl, tt))))))))));
  refused_fresh = (refl, refl);
}
