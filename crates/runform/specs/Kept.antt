-- A kept run in memory: what it is made from, what it keeps, and what it holds for each zone. Definitions only.
use Rattle.std.specs.Prelude.{ℕ, zero, suc, ◌-◌, ◌*◌, List, length, take, replicate, Float}
use Rattle.numbers.specs.Arithmetic.{zero64}
use Rattle.lists.specs.Lists.{listed}
use Rattle.lists.specs.Slots.{offset, slot}
use Rattle.lists.specs.Floats.{zeros}
use Rattle.shape.specs.declared.Shape.{Shape}
use Rattle.shape.specs.Limits.{most_axes}
use Rattle.shape.specs.Shapes.{points_of, right_of, at_bond, core_size, entries_of, all_points}
use Rattle.shape.specs.Cores.{Core, core_with, core_at, points_at}
use Rattle.stepform.specs.declared.Axis.{Axis}
use Rattle.cutform.specs.declared.Bond.{Bond}
use Rattle.stepform.specs.Axes.{axis_at}
use Rattle.cutform.specs.Rounding.{Carry, none, some}
use Rattle.cutform.specs.Bonds.{no_bond}
use Rattle.cutform.specs.Keeping.{Stepped, carry_size, rank_among, rank_at}
use Rattle.sumform.specs.Product.{start_sums}
use Rattle.sumform.specs.Sums.{sum_size}
use Rattle.stepform.specs.declared.Settings.{Settings}
use Rattle.stepform.specs.Zones.{Zone, zone}
use Rattle.runform.specs.declared.Run.{Run}
use Rattle.runform.specs.declared.Lengths.{Lengths}
use Rattle.runform.specs.Slices.{Outputs, Slices, outputs, slices, in_order, each_output, each_slice}

-- what a run is made from
pub record Inputs : Type 0 where
  pub shape : Shape
  pub axes : List Axis
  pub set : Settings
  pub source : List Float
  pub weights : List Float

-- what it keeps of the inner product; of the step it keeps what `Stepped` has
pub record Summed : Type 0 where
  pub sums : List Float
  pub figure : Float

pub record Kept : Type 0 where
  pub inputs : Inputs
  pub stepped : Stepped
  pub summed : Summed

abbrev pub running : Inputs → Stepped → Summed → Kept
running i t u = record { inputs = i; stepped = t; summed = u }

-- ---- in memory it is a record by value and its slices
abbrev pub inputs_of : Shape → List Axis → Settings → Slices (List Float) → Inputs
inputs_of s xs t m = record { shape = s; axes = xs; set = t; source = m.source; weights = m.weights }

abbrev pub kept_of : Run → Slices (List Float) → Kept
kept_of r m = record {
  inputs = inputs_of r.shape r.axes r.set m;
  stepped = record { bonds = r.bonds; chain = m.outputs.chain; carries = m.outputs.carries };
  summed = record { sums = m.outputs.sums; figure = r.figure };
}

abbrev pub record_of : Kept → Run
record_of k = record {
  shape = k.inputs.shape;
  axes = k.inputs.axes;
  set = k.inputs.set;
  bonds = k.stepped.bonds;
  figure = k.summed.figure;
}

abbrev pub slices_of : Kept → Slices (List Float)
slices_of k = slices k.inputs.source k.inputs.weights k.stepped.chain k.stepped.carries k.summed.sums

-- ---- all slots of carries, and of sums
abbrev pub all_carries : Shape → ℕ
all_carries s = offset (carry_size s) s.d

abbrev pub all_sums : Shape → ℕ
all_sums s = offset (sum_size s) s.d

-- ---- the lengths of its slices: those that a shape asks for, those of a run, and those that code was told
abbrev pub room_for : Shape → Outputs ℕ
room_for s = outputs (entries_of s) (all_carries s) (all_sums s)

abbrev pub lengths_for : Shape → List ℕ
lengths_for s = in_order (record { source = entries_of s; weights = all_points s; outputs = room_for s })

abbrev pub lengths_of : Kept → List ℕ
lengths_of k = in_order (each_slice length (slices_of k))

abbrev pub lengths_in : Lengths → List ℕ
lengths_in l = in_order (slices l.source l.weights l.chain l.carries l.sums)

-- ---- the record of a run that keeps nothing yet
abbrev pub blank_run : Shape → List Axis → Settings → Run
blank_run s xs t = record { shape = s; axes = xs; set = t; bonds = replicate most_axes no_bond; figure = zero64 }

-- such a run over slices as they are
unfoldable pub bare : Inputs → Outputs (List Float) → Kept
bare i m = kept_of (blank_run i.shape i.axes i.set) (record { source = i.source; weights = i.weights; outputs = m })

-- and with every slot +0
unfoldable pub blank : Inputs → Kept
blank i = bare i (each_output zeros (room_for i.shape))

-- ---- what it is made from, zone by zone
unfoldable pub zone_at : Inputs → ℕ → Zone
zone_at i k = zone (core_at i.shape i.source k) (axis_at i.axes k)

-- the zones from z on
abbrev pub zones_from : Inputs → ℕ → List Zone
zones_from i z = listed (i.shape.d - z) z (zone_at i)

-- ---- what it holds, zone by zone: the used room of each slot, by the bonds and the slice
-- the kept ranks left and right of core k
abbrev pub left_held : List Bond → ℕ → ℕ
left_held bonds zero = 1
left_held bonds (suc k) = rank_among bonds k

abbrev pub right_held : Shape → List Bond → ℕ → ℕ
right_held s bonds k = at_bond s k (rank_among bonds k) (right_of s k)

unfoldable pub held_core : Shape → List Bond → List Float → ℕ → Core
held_core s bonds chain k =
    let l = left_held bonds k in
    let n = points_of s k in
    let r = right_held s bonds k in
    core_with l n r (take (l * n * r) (slot (core_size s) k chain))

abbrev pub held_carry : Shape → List Bond → List Float → ℕ → List Float
held_carry s bonds carries k = take (rank_among bonds k * right_of s k) (slot (carry_size s) k carries)

abbrev pub held_sums : Shape → List Bond → List Float → ℕ → List Float
held_sums s bonds sums k = take (right_held s bonds k) (slot (sum_size s) k sums)

-- ---- of a run
abbrev pub left_rank : Stepped → ℕ → ℕ
left_rank t k = left_held t.bonds k

abbrev pub right_rank : Shape → Stepped → ℕ → ℕ
right_rank s t k = right_held s t.bonds k

abbrev pub kept_core : Shape → Stepped → ℕ → Core
kept_core s t k = held_core s t.bonds t.chain k

-- the carry of bond k, and the carry left of zone z
abbrev pub kept_carry : Shape → Stepped → ℕ → List Float
kept_carry s t k = held_carry s t.bonds t.carries k

unfoldable pub carry_at : Shape → Stepped → ℕ → Carry
carry_at s t zero = none
carry_at s t (suc k) = some (rank_at t k) (kept_carry s t k)

-- the sums of axis k, and the sums left of zone z
abbrev pub kept_sums : Shape → Stepped → Summed → ℕ → List Float
kept_sums s t u k = held_sums s t.bonds u.sums k

unfoldable pub sums_at : Shape → Stepped → Summed → ℕ → List Float
sums_at s t u zero = start_sums
sums_at s t u (suc k) = kept_sums s t u k

-- core k with its axis' weights, and those from z on
unfoldable pub weighed_at : Inputs → Stepped → ℕ → Core × List Float
weighed_at i t k = (kept_core i.shape t k, points_at i.shape i.weights k)

abbrev pub weighed_from : Inputs → Stepped → ℕ → List (Core × List Float)
weighed_from i t z = listed (i.shape.d - z) z (weighed_at i t)
