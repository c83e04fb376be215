-- The checks of a fresh run and what they share with a replacement's. Definitions only.
use Rattle.std.specs.Prelude.{ℕ, suc, Bool, true, ◌&&◌, List, [], ◌∷◌, eqb, length, Float, Ok}
use Rattle.numbers.specs.Finite.{finite}
use Rattle.answers.specs.declared.Refusal.TheVariants.{Length, Number, Setting, Reach}
use Rattle.answers.specs.Outcome.{Answer, Check, ◌then◌, demand, demand_each}
use Rattle.lists.specs.Floats.{all_finite}
use Rattle.shape.specs.declared.Shape.{Shape}
use Rattle.shape.specs.Limits.{within, scratch_for}
use Rattle.shape.specs.Shapes.{right_of, at_bond, chain_ok, entries_of, all_points}
use Rattle.shape.specs.Cores.{points_at}
use Rattle.stepform.specs.declared.Axis.{Axis}
use Rattle.stepform.specs.Axes.{axis_finite, axis_ok, axis_at}
use Rattle.cutform.specs.Call.{core_finite}
use Rattle.stepform.specs.Lone.{lone_finite, lone_ok}
use Rattle.stepform.specs.Zones.{Rules}
use Rattle.stepform.specs.Call.{reaches_at}
use Rattle.runform.specs.Slices.{Outputs, outputs, outputs_in_order}
use Rattle.runform.specs.Kept.{Inputs, Summed, Kept, room_for, lengths_for, blank, held_core, held_carry, held_sums}
use Rattle.cutform.specs.declared.Bond.{Bond}
use Rattle.cutform.specs.Keeping.{Stepped, rank_among, dropped_among}
use Rattle.runform.specs.Work.{work_from}

-- ---- 3: a kept rank is at least 1 and at most its source's
unfoldable pub rank_ok : Shape → List Bond → ℕ → Bool
rank_ok s bonds k = at_bond s k (within (right_of s k) (rank_among bonds k)) true

-- ---- 5: slices that have these lengths and are to have those, the first being slice j
unfoldable pub lent_from : ℕ → List ℕ → List ℕ → Check
lent_from j (n ∷ ns) (m ∷ ms) = demand (eqb n m) (Length j) then lent_from (suc j) ns ms
lent_from j (n ∷ ns) [] = Ok tt
lent_from j [] ms = Ok tt

-- all slices of a run
abbrev pub slices_lent : Shape → List ℕ → Check
slices_lent s lengths = lent_from 0 lengths (lengths_for s)

-- slices 0 and 1, the source and the weights
abbrev pub inputs_lent : Inputs → Check
inputs_lent i = lent_from 0 (length i.source ∷ length i.weights ∷ []) (entries_of i.shape ∷ all_points i.shape ∷ [])

-- the slices from 2 on, which a run keeps, by their lengths
abbrev pub outputs_lent : Shape → Outputs ℕ → Check
outputs_lent s m = lent_from 2 (outputs_in_order m) (outputs_in_order (room_for s))

-- scratch, which is slice j, by its length
unfoldable pub scratch_lent : Shape → ℕ → ℕ → Check
scratch_lent s j scratch = demand (eqb scratch (scratch_for (entries_of s))) (Length j)

-- ---- 6 of what zone k is made from
unfoldable pub made_finite : Shape → List Axis → List Float → List Float → ℕ → Bool
made_finite s xs source weights k = core_finite s source k && (axis_finite (axis_at xs k) && all_finite (points_at s weights k))

abbrev pub zone_finite : Inputs → ℕ → Bool
zone_finite i = made_finite i.shape i.axes i.source i.weights

-- and of what is kept of it, in used room
unfoldable pub core_held : Shape → List Bond → List Float → ℕ → Bool
core_held s bonds chain k = all_finite (held_core s bonds chain k).entries

unfoldable pub carry_held : Shape → List Bond → List Float → ℕ → Bool
carry_held s bonds carries k = at_bond s k (all_finite (held_carry s bonds carries k)) true

unfoldable pub sums_held : Shape → List Bond → List Float → ℕ → Bool
sums_held s bonds sums k = all_finite (held_sums s bonds sums k)

unfoldable pub dropped_held : Shape → List Bond → ℕ → Bool
dropped_held s bonds k = at_bond s k (finite (dropped_among bonds k)) true

unfoldable pub held_finite : Shape → List Bond → Outputs (List Float) → ℕ → Bool
held_finite s bonds m k =
    core_held s bonds m.chain k && (carry_held s bonds m.carries k && (sums_held s bonds m.sums k && dropped_held s bonds k))

abbrev pub kept_finite : Shape → Stepped → Summed → ℕ → Bool
kept_finite s t u = held_finite s t.bonds (outputs t.chain t.carries u.sums)

-- ---- 6 and 7 of what a run is made from
unfoldable pub made_ok : Inputs → Check
made_ok i =
    demand (lone_finite i.set) (Number 0)
    then demand_each Number (zone_finite i) i.shape.d 0
    then demand (lone_ok i.set) (Setting 0)
    then demand_each Setting (λ (k : ℕ). axis_ok (axis_at i.axes k)) i.shape.d 0

-- ---- a fresh run; `room` is 5 for the slices that the call writes
module _ (R : Rules) where
  -- 8, of zone k
  abbrev pub in_reach_at : Inputs → ℕ → Bool
  in_reach_at i = reaches_at R i.set i.shape i.axes

  unfoldable pub fresh_ok : Check → Inputs → Check
  fresh_ok room i =
      chain_ok i.shape
      then inputs_lent i then room
      then made_ok i
      then demand_each Reach (in_reach_at i) i.shape.d 0

  -- the work from zone 0 on a run that keeps nothing yet
  unfoldable pub fresh_run : Check → Inputs → Answer Kept
  fresh_run room i = fresh_ok room i then work_from R (blank i) 0
