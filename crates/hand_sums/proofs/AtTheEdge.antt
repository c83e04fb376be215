-- Every case at an edge comes out as it is written, by computation. Assumes nothing.
use mathlib.Core.Path.{refl}
use lib.Ieee.{add, mul, lt, eq, of_bits, to_bits}
use Rattle.answers.specs.Outcome.{demand, demand_each}
use Rattle.lists.specs.Floats.{all_finite}
use Rattle.lists.specs.Lists.{pick, listed, flat}
use Rattle.lists.specs.Slots.{offset, slot}
use Rattle.shape.specs.Cores.{place, entry, core_at, points_at}
use Rattle.shape.specs.Shapes.{size_ok, bond_ok, shape_ok, core_size, point_size}
use Rattle.stepform.specs.Boundaries.{boundary_ok}
use Rattle.stepform.specs.Axes.{axis_finite, axis_ok}
use Rattle.pairform.specs.Slabs.{plus_product, slab_entry, slab}
use Rattle.sumform.specs.Start.{start_sized, start_lent, start_finite, start_ok, start_call}
use Rattle.cutform.specs.Modes.{mode_ok}
use Rattle.cutform.specs.Call.{lengths_ok, core_finite, not_below_zero, cutting_finite, cutting_ok, round_finite, round_ok, ended_as, round_call}
use Rattle.stepform.specs.Lone.{lone_finite, lone_ok, course_finite, course_ok}
use Rattle.stepform.specs.Call.{zones_finite, settings_ok, step_ok, step_over, evolve_over}
use Rattle.hand_sums.specs.Cases.{AllRight}
use Rattle.hand_sums.specs.Edges.{edges, unknown_modes}

all : AllRight edges × AllRight unknown_modes
unfolding edges unknown_modes add mul lt eq of_bits to_bits demand demand_each all_finite pick listed flat offset slot place entry core_at points_at size_ok bond_ok shape_ok
    core_size point_size boundary_ok axis_finite axis_ok plus_product slab_entry slab start_sized start_lent start_finite start_ok start_call lengths_ok core_finite not_below_zero cutting_finite cutting_ok mode_ok
    round_finite round_ok ended_as round_call lone_finite lone_ok course_finite course_ok zones_finite settings_ok step_ok step_over evolve_over
all = (
  (refl, (refl, (refl, (refl, (refl, (refl, (refl, (refl, (refl, (refl, (refl, (refl, (refl, (refl, (refl, (refl, (refl, (refl, (refl, (refl, (refl, (refl, (refl, (refl, (refl, (refl, tt)))))))))))))))))))))))))),
  (refl, (refl, (refl, (refl, (refl, (refl, (refl, (refl, (refl, tt))))))))),
)

pub at_the_edge : AllRight edges
at_the_edge = all.0

-- modes that aren't known
pub of_modes : AllRight unknown_modes
of_modes = all.1
