-- The work of a run from zone z on, where its checks have passed: what it asks of memory, and what it leaves. Definitions for code only.
use Rattle.std.specs.Prelude.{◌≡◌, ℕ, ◌≤◌, ◌<◌, true, List, length, Float, Ok, Err}
use Rattle.answers.specs.declared.Refusal.{Refusal}
use Rattle.answers.specs.Outcome.{answered}
use Rattle.lists.specs.Slots.{slot}
use Rattle.shape.specs.declared.Shape.{Shape}
use Rattle.shape.specs.Shapes.{chain_ok, core_size, entries_of, all_points}
use Rattle.cuts.specs.declared.Walked.{Walked}
use Rattle.stepform.specs.Zones.{rules}
use Rattle.stepform.specs.Call.{axis_reaches}
use Rattle.runform.specs.declared.Run.{Run}
use Rattle.runform.specs.declared.Ran.{Ran}
use Rattle.runform.specs.Slices.{Outputs, each_output}
use Rattle.runform.specs.Kept.{kept_of, room_for}
use Rattle.runform.specs.Work.{work_from}
use Rattle.run_work.specs.InPlace.{RanksWithin}

-- in the slots from z on the work holds the source
abbrev pub SourcesFrom : Shape → ℕ → List Float → List Float → Type 0
SourcesFrom s z source work = (k : ℕ) → z ≤ k → k < s.d → slot (core_size s) k work ≡ slot (core_size s) k source

-- what the checks let through
pub record RenewAsks (r : Run) (z : ℕ) (weights : List Float) (m : Outputs (List Float)) (scratch : List Float) : Type 0 where
  pub ok : chain_ok r.shape ≡ Ok tt
  pub zone : z < r.shape.d
  pub reach : (k : ℕ) → z ≤ k → k < r.shape.d → axis_reaches r.set r.shape r.axes k ≡ true
  pub ranks : RanksWithin r.shape r.bonds z
  pub points : all_points r.shape ≤ length weights
  pub long : each_output length m ≡ room_for r.shape
  pub room : entries_of r.shape ≤ length scratch

-- the run, whatever source it has in the slots from z on as scratch has it; refused, all of it is as it was
pub record Renewed (r : Run) (z : ℕ) (weights : List Float) (m : Outputs (List Float)) (scratch : List Float) (a : Ran)
    (m' : Outputs (List Float)) : Type 0 where
  pub work : (source : List Float) → SourcesFrom r.shape z source scratch
      → work_from rules (kept_of r (record { source = source; weights = weights; outputs = m })) z
      ≡ answered a.verdict (kept_of a.run (record { source = source; weights = weights; outputs = m' }))
  pub left : (q : Refusal) → a.verdict ≡ Err q → (a.run ≡ r) × (m' ≡ m)

-- the bonds of a run
abbrev pub walked_of : Run → Walked
walked_of r = record { shape = r.shape; bonds = r.bonds }

-- and the run with new ones, and with a new figure
abbrev pub run_with : Run → Walked → Float → Run
run_with r w figure = record { shape = r.shape; axes = r.axes; set = r.set; bonds = w.bonds; figure = figure }
