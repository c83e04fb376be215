-- The three replacements on any run, also one that others wrote to: their checks in order, then the same work from their zone on. Definitions only.
use Rattle.std.specs.Prelude.{◌≡◌, ℕ, ◌-◌, ◌<◌, Bool, true, ◌&&◌, List, eqb, ltb, length, set, Float, Ok}
use Rattle.numbers.specs.Finite.{finite}
use Rattle.answers.specs.declared.Refusal.TheVariants.{Zone, Length, Number, Setting, Reach}
use Rattle.answers.specs.Outcome.{Answer, Check, ◌then◌, demand, demand_each}
use Rattle.lists.specs.Lists.{pick}
use Rattle.lists.specs.Slots.{put}
use Rattle.lists.specs.Floats.{all_finite}
use Rattle.shape.specs.declared.Shape.{Shape}
use Rattle.shape.specs.Shapes.{shape_ok, core_size, point_size}
use Rattle.stepform.specs.declared.Axis.{Axis}
use Rattle.stepform.specs.Axes.{axis_finite, axis_ok, axis_at}
use Rattle.stepform.specs.Zones.{Rules}
use Rattle.stepform.specs.Lone.{lone_finite, lone_ok}
use Rattle.runform.specs.Slices.{slice_count}
use Rattle.runform.specs.Kept.{Inputs, Kept, running, lengths_of}
use Rattle.runform.specs.Work.{sum_from, work_from}
use Rattle.runform.specs.Checks.{rank_ok, slices_lent, zone_finite, kept_finite, in_reach_at}

-- a zone, and its new core's numbers, its new axis record or its new weights
pub data Request : Type 0 where
  new_core : ℕ → List Float → Request
  new_axis : ℕ → Axis → Request
  new_weights : ℕ → List Float → Request

abbrev pub zone_of : Request → ℕ
zone_of (new_core z xs) = z
zone_of (new_axis z a) = z
zone_of (new_weights z ws) = z

-- the inputs with the new part in
abbrev pub present : Inputs → Request → Inputs
present i (new_core z xs) = record { shape = i.shape; axes = i.axes; set = i.set; source = put (core_size i.shape) z xs i.source; weights = i.weights }
present i (new_axis z a) = record { shape = i.shape; axes = set i.axes z a; set = i.set; source = i.source; weights = i.weights }
present i (new_weights z ws) =
    record { shape = i.shape; axes = i.axes; set = i.set; source = i.source; weights = put (point_size i.shape) z ws i.weights }

-- ---- what is asked of the new part: 5, its length; 6 and 7, at its zone
abbrev pub part_fits : Shape → Request → Bool
part_fits s (new_core z xs) = eqb (length xs) (core_size s z)
part_fits s (new_axis z a) = true
part_fits s (new_weights z ws) = eqb (length ws) (point_size s z)

-- the request names a zone of the run, and its part has that zone's length
pub record InOrder (s : Shape) (q : Request) : Type 0 where
  pub inside : zone_of q < s.d
  pub fits : part_fits s q ≡ true

abbrev pub new_finite : Request → Bool
new_finite (new_core z xs) = all_finite xs
new_finite (new_axis z a) = axis_finite a
new_finite (new_weights z ws) = all_finite ws

abbrev pub new_ok : Request → Bool
new_ok (new_core z xs) = true
new_ok (new_axis z a) = axis_ok a
new_ok (new_weights z ws) = true

-- 1 to 5 of a run as it is found, and 4 of the zone z, but for the part and scratch
unfoldable pub found_ok : Kept → ℕ → Check
found_ok k z =
    let s = k.inputs.shape in
    shape_ok s (rank_ok s k.stepped.bonds) then demand (ltb z s.d) Zone then slices_lent s (lengths_of k)

-- 6 and 7: every number in used room of record and slices, what is to be replaced too; `part` and `axis` say whether the new part, at zone z, passes them
abbrev pub zone_found : Kept → ℕ → Bool
zone_found k j = zone_finite k.inputs j && kept_finite k.inputs.shape k.stepped k.summed j

unfoldable pub found_numbers : Kept → ℕ → Bool → Bool → Check
found_numbers k z part axis =
    let i = k.inputs in
    demand (lone_finite i.set && finite k.summed.figure) (Number 0)
    then demand_each Number (λ (j : ℕ). zone_found k j && pick (eqb j z) part true) i.shape.d 0
    then demand (lone_ok i.set) (Setting 0)
    then demand_each Setting (λ (j : ℕ). axis_ok (axis_at i.axes j) && pick (eqb j z) axis true) i.shape.d 0

module _ (R : Rules) where
  -- 8, of the shifts that are made
  abbrev pub shifts_ok : Inputs → Request → Check
  shifts_ok i (new_core z xs) = demand_each Reach (in_reach_at R i) (i.shape.d - z) z
  shifts_ok i (new_axis z a) = demand_each Reach (in_reach_at R i) (i.shape.d - z) z
  shifts_ok i (new_weights z ws) = Ok tt

  -- 6 to 8
  unfoldable pub numbers_ok : Kept → Request → Check
  numbers_ok k q = found_numbers k (zone_of q) (new_finite q) (new_ok q) then shifts_ok (present k.inputs q) q

  -- the part comes behind the run's slices; `room` is 5 for scratch, which comes last
  unfoldable pub replace_ok : Check → Kept → Request → Check
  replace_ok room k q =
      found_ok k (zone_of q)
      then demand (part_fits k.inputs.shape q) (Length slice_count)
      then room
      then numbers_ok k q

  -- a new core or axis record: step and sums from its zone on; new weights: the sums
  abbrev pub redo : Request → Kept → Answer Kept
  redo (new_core z xs) k = work_from R k z
  redo (new_axis z a) k = work_from R k z
  redo (new_weights z ws) k = sum_from R k z

  unfoldable pub replace : Check → Kept → Request → Answer Kept
  replace room k q = replace_ok room k q then redo q (running (present k.inputs q) k.stepped k.summed)
