-- Every sum done by hand, and every refusal in the work, comes out as it is written, by computation. Assumes nothing.
use mathlib.Core.Path.{refl}
use lib.Ieee.{add, sub, mul, div, neg, lt, le, eq, of_int, of_bits, to_bits}
use Rattle.answers.specs.Outcome.{demand, demand_each}
use Rattle.numbers.specs.Floor.{floor_of}
use Rattle.numbers.specs.Residues.{wrap}
use Rattle.numbers.specs.Root.{root_in, whole_root, root_of_units, root_of}
use Rattle.numbers.specs.Whole.{whole_of, fraction_of}
use Rattle.lists.specs.Floats.{sum_on, sum_to, sum_rows, all_finite, first_not_finite, stored}
use Rattle.lists.specs.Lists.{pick, listed, flat, first, count, pairs, folded}
use Rattle.lists.specs.Slots.{offset, slot, fit}
use Rattle.lists.specs.Walks.{along, every, walk}
use Rattle.shape.specs.Cores.{place, entry, block, core_at, cores_of, points_at, reshaped}
use Rattle.shape.specs.Shapes.{size_ok, bond_ok, shape_ok, core_size, point_size}
use Rattle.stepform.specs.Boundaries.{boundary_ok, reflected, wrapped}
use Rattle.stepform.specs.Axes.{axis_finite, axis_ok}
use Rattle.stepform.specs.Shifts.{distance, spacing, shift_of, shifted, scaled}
use Rattle.stepform.specs.Weights.{cubic_band_weights, band_on, shifted_at}
use Rattle.cutform.specs.Bonds.{gram, cut_bond, absorb}
use Rattle.cutform.specs.Factors.{left_factor, carry_of}
use Rattle.cutform.specs.Rotation.{tangent_of, slope_of, cosine_of, turned_at, eye}
use Rattle.cutform.specs.Modes.{mode_ok, off_sum, diagonal_sum, small_beside, settled, skipped, divided}
use Rattle.cutform.specs.Sweeps.{turn_columns, turn_rows, cleared, turned, rotate, sweep, sweeps_from, diagonalized}
use Rattle.cutform.specs.Values.{singular_of, singulars, place_in, index_at, order, sorted, threshold_of, kept_rank, dropped_from}
use Rattle.cutform.specs.Call.{lengths_ok, core_finite, not_below_zero, cutting_finite, cutting_ok, round_finite, round_ok, scratch_after, ended_as, round_call}
use Rattle.cutform.specs.Rounding.{round_core, rounding}
use Rattle.sumform.specs.Call.{inner_lent, inner_finite, inner_ok, weighed, inner_call}
use Rattle.sumform.specs.Contract.{contract}
use Rattle.sumform.specs.Product.{contract_at, sum_axis, sums, inner}
use Rattle.stepform.specs.Lone.{lone_finite, lone_ok, course_finite, course_ok}
use Rattle.stepform.specs.Call.{reaches_at, zones_finite, settings_ok, step_ok, step_over, settings_for, evolve_over}
use Rattle.stepform.specs.Steps.{shift_zone, scale_zone, round_zone, step_from, step, greater, further_bond, further, steps_from, steps_of}
use Rattle.stepform.specs.Zones.{zones_of, rules}
use Rattle.hand_sums.specs.Cases.{cases, AllRight}
use Rattle.hand_sums.specs.Overflows.{overflows}
use Rattle.hand_sums.specs.Dropped.{dropping}
use Rattle.hand_sums.specs.Mirrored.{mirrored}
use Rattle.hand_sums.specs.Scaled.{rare_events}

all : AllRight cases × AllRight overflows × AllRight dropping × AllRight mirrored × AllRight rare_events
unfolding cases overflows dropping mirrored rare_events add sub mul div neg lt le eq of_int of_bits to_bits demand demand_each floor_of wrap root_in whole_root root_of_units root_of whole_of fraction_of
    sum_on sum_to sum_rows all_finite first_not_finite stored pick listed flat first count pairs folded offset slot fit along every walk place entry block core_at
    cores_of points_at reshaped size_ok bond_ok shape_ok core_size point_size boundary_ok reflected wrapped axis_finite axis_ok distance spacing shift_of shifted scaled cubic_band_weights band_on
    shifted_at gram divided left_factor carry_of cut_bond absorb tangent_of slope_of cosine_of turned_at eye turn_columns turn_rows cleared turned skipped rotate
    sweep off_sum diagonal_sum small_beside settled sweeps_from diagonalized singular_of singulars place_in index_at order sorted threshold_of kept_rank dropped_from lengths_ok core_finite not_below_zero cutting_finite cutting_ok mode_ok
    round_finite round_ok scratch_after ended_as round_call round_core rounding inner_lent inner_finite inner_ok weighed inner_call contract contract_at sum_axis sums
    inner lone_finite lone_ok reaches_at zones_finite settings_ok step_ok step_over shift_zone scale_zone round_zone step_from step zones_of rules course_finite course_ok
    greater further_bond further steps_from steps_of settings_for evolve_over
all = (
  (refl, (refl, (refl, (refl, (refl, (refl, (refl, (refl, (refl, (refl, (refl, tt))))))))))),
  (refl, (refl, (refl, (refl, (refl, (refl, (refl, (refl, (refl, (refl, (refl, (refl, tt)))))))))))),
  (refl, (refl, (refl, (refl, (refl, (refl, (refl, (refl, (refl, tt))))))))),
  (refl, (refl, (refl, (refl, (refl, (refl, (refl, tt))))))),
  (refl, (refl, (refl, (refl, (refl, (refl, (refl, (refl, (refl, tt))))))))),
)

-- the sums of the scope
pub by_hand : AllRight cases
by_hand = all.0

-- which part overflowed
pub by_part : AllRight overflows
by_part = all.1

-- what was dropped
pub by_drop : AllRight dropping
by_drop = all.2

-- axes that reflect
pub by_mirror : AllRight mirrored
by_mirror = all.3

-- scaled mode
pub by_scale : AllRight rare_events
by_scale = all.4
