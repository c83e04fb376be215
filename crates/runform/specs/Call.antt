-- The calls: a fresh run and the three replacements. What each answers, and what it leaves in every slice. Definitions only.
use Rattle.std.specs.Prelude.{ℕ, List, length, Float}
use Rattle.answers.specs.Outcome.{Answer, Check, ◌then◌, verdict_of, held_or}
use Rattle.shape.specs.declared.Shape.{Shape}
use Rattle.stepform.specs.declared.Axis.{Axis}
use Rattle.cutform.specs.Call.{scratch_after}
use Rattle.stepform.specs.declared.Settings.{Settings}
use Rattle.stepform.specs.Zones.{Rules, rules}
use Rattle.runform.specs.declared.Run.{Run}
use Rattle.runform.specs.declared.Ran.{Ran}
use Rattle.runform.specs.Slices.{Outputs, Slices, slice_count, behind_part, each_output}
use Rattle.runform.specs.Kept.{Inputs, Kept, inputs_of, kept_of, record_of, slices_of, bare}
use Rattle.runform.specs.Checks.{outputs_lent, scratch_lent, fresh_run}
use Rattle.runform.specs.Requests.{Request, new_core, new_axis, new_weights, replace}

-- ---- the end of a call: what it answers, the run's slices, and scratch
pub record RunEnd : Type 0 where
  pub result : Ran
  pub slices : Slices (List Float)
  pub scratch : List Float

-- refused, record and slices are those of k
unfoldable pub run_end : Kept → List Float → Answer Kept → RunEnd
run_end k scratch o =
    let k' = held_or k o in
    record { result = record { verdict = verdict_of o; run = record_of k' }; slices = slices_of k'; scratch = scratch_after scratch o }

-- ---- a fresh run is lent the run's slices, of which it reads source and weights, then scratch: this it writes
pub record Room : Type 0 where
  pub outputs : Outputs (List Float)
  pub scratch : List Float

-- 5 of it, by the lengths
unfoldable pub room_lent : Shape → Outputs ℕ → ℕ → Check
room_lent s m scratch = outputs_lent s m then scratch_lent s slice_count scratch

abbrev pub room_ok : Shape → Room → Check
room_ok s m = room_lent s (each_output length m.outputs) (length m.scratch)

-- ---- a replacement is lent the run's slices, the part where there is one, which it reads, and scratch
abbrev pub scratch_place : Request → ℕ
scratch_place (new_core z xs) = behind_part
scratch_place (new_axis z a) = slice_count
scratch_place (new_weights z ws) = behind_part

-- ---- by any rules
module _ (R : Rules) where
  -- refused, the record keeps nothing: the given shape, axes and settings, and zeros
  unfoldable pub fresh_by : Inputs → Room → RunEnd
  fresh_by i m = run_end (bare i m.outputs) m.scratch (fresh_run R (room_ok i.shape m) i)

  unfoldable pub replace_by : Kept → Request → List Float → RunEnd
  replace_by k q scratch = run_end k scratch (replace R (scratch_lent k.inputs.shape (scratch_place q) (length scratch)) k q)

-- ---- the public calls, by the rules of 000 and 001: the settings, then the slices in their order
abbrev pub fresh_call : Shape → List Axis → Settings → Slices (List Float) → List Float → RunEnd
fresh_call s xs t m scratch = fresh_by rules (inputs_of s xs t m) (record { outputs = m.outputs; scratch = scratch })

abbrev pub replace_core_call : Run → ℕ → Slices (List Float) → List Float → List Float → RunEnd
replace_core_call r z m part scratch = replace_by rules (kept_of r m) (new_core z part) scratch

abbrev pub replace_weights_call : Run → ℕ → Slices (List Float) → List Float → List Float → RunEnd
replace_weights_call r z m part scratch = replace_by rules (kept_of r m) (new_weights z part) scratch

abbrev pub replace_axis_call : Run → ℕ → Axis → Slices (List Float) → List Float → RunEnd
replace_axis_call r z a m scratch = replace_by rules (kept_of r m) (new_axis z a) scratch
