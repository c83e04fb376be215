-- What a run is found to be, by what code finds of it. Assumes nothing.
use Rattle.std.specs.Prelude.{Ok}
use mathlib.Core.Path.{◌≡◌, refl}
use Prim.Native.Nat.{ℕ, ◌≤◌}
use native.Mathlib.Nat.{le_of_eq}
use mathlib.Core.Bool.{Bool, true, ◌&&◌}
use lib.Dec.{eqb}
use Rattle.numbers.specs.Finite.{finite}
use Rattle.answers.specs.declared.Refusal.TheVariants.{Number, Setting}
use Rattle.answers.specs.Outcome.{◌then◌, demand, demand_each, Check}
use Rattle.lists.specs.Lists.{pick}
use Rattle.shape.specs.declared.Shape.{Shape}
use Rattle.shape.specs.Shapes.{entries_of, all_points}
use Rattle.stepform.specs.Axes.{axis_ok, axis_at}
use Rattle.stepform.specs.Lone.{lone_finite, lone_ok}
use Rattle.runform.specs.Slices.{Slices, in_order}
use Rattle.runform.specs.Kept.{Inputs, Kept, all_carries, all_sums, lengths_for}
use Rattle.runform.specs.Checks.{slices_lent, zone_finite, made_ok}
use Rattle.runform.specs.Requests.{zone_found, found_numbers}
use Rattle.runform.proofs.InRow.{lent_is}

-- ---- lengths that passed
pub record Long (s : Shape) (m : Slices ℕ) : Type 0 where
  pub source : entries_of s ≤ m.source
  pub weights : all_points s ≤ m.weights
  pub chain : entries_of s ≤ m.outputs.chain
  pub carries : all_carries s ≤ m.outputs.carries
  pub sums : all_sums s ≤ m.outputs.sums

pub lent_says : (s : Shape) (m : Slices ℕ) → slices_lent s (in_order m) ≡ Ok tt → Long s m
lent_says s m ok =
    let l = lent_is 0 (in_order m) (lengths_for s) refl ok in
    record { source = le_of_eq cc; weights = le_of_eq cc; chain = le_of_eq cc; carries = le_of_eq cc; sums = le_of_eq cc }

-- 6 and 7 of it
pub numbers_are : (k : Kept) (z : ℕ) (part axis : Bool) (v : Check) (lone figure mild : Bool)
    → lone ≡ lone_finite k.inputs.set → figure ≡ finite k.summed.figure → mild ≡ lone_ok k.inputs.set
    → v ≡ (demand (lone && figure) (Number 0)
    then demand_each Number (λ (j : ℕ). zone_found k j && pick (eqb j z) part true) k.inputs.shape.d 0
    then demand mild (Setting 0)
    then demand_each Setting (λ (j : ℕ). axis_ok (axis_at k.inputs.axes j) && pick (eqb j z) axis true) k.inputs.shape.d 0)
    → v ≡ found_numbers k z part axis
unfolding found_numbers
numbers_are k z part axis v lone figure mild a f b h = rw (← a, ← f, ← b) h

pub made_are : (i : Inputs) (v : Check) (lone mild : Bool) → lone ≡ lone_finite i.set → mild ≡ lone_ok i.set
    → v ≡ (demand lone (Number 0)
    then demand_each Number (zone_finite i) i.shape.d 0
    then demand mild (Setting 0) then demand_each Setting (λ (k : ℕ). axis_ok (axis_at i.axes k)) i.shape.d 0)
    → v ≡ made_ok i
unfolding made_ok
made_are i v lone mild a b h = rw (← a, ← b) h
