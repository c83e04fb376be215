-- The calls `step` and `evolve`: slices are the axis records, the chain, scratch. Definitions only.
use Rattle.std.specs.Prelude.{ℕ, Bool, ◌&&◌, List, eqb, pos, length, Float}
use Rattle.std.specs.Float.{binary64}
use Rattle.std.specs.Float.Ieee.{of_int}
use Rattle.numbers.specs.Arithmetic.{over}
use Rattle.answers.specs.declared.Refusal.TheVariants.{Length, Number, Setting, Reach}
use Rattle.answers.specs.Outcome.{Check, ◌then◌, demand, demand_each}
use Rattle.shape.specs.declared.Shape.{Shape}
use Rattle.shape.specs.Shapes.{points_of, chain_ok}
use Rattle.shape.specs.Cores.{cores_of}
use Rattle.stepform.specs.declared.Axis.{Axis}
use Rattle.stepform.specs.Axes.{axis_finite, axis_ok, axis_at}
use Rattle.cutform.specs.Call.{lengths_ok, core_finite, Ended, ended_as, ended_by}
use Rattle.cutform.specs.declared.Cutting.{Cutting}
use Rattle.stepform.specs.declared.Settings.{Settings}
use Rattle.stepform.specs.Lone.{lone_finite, lone_ok, course_finite, course_ok}
use Rattle.stepform.specs.Zones.{Rules, rules}
use Rattle.stepform.specs.Steps.{step, steps_of}

-- ---- what is asked, in this order. The records come with the number of those that were lent: code holds them by value, and what stands beyond the axes
-- that there are is never asked for (proofs/Gathers.antt)
-- 8 spares axis k: its core stays, or its shift is near enough
unfoldable pub reaches_at : Rules → Settings → Shape → List Axis → ℕ → Bool
reaches_at R t s xs k = R.reaches t (axis_at xs k) (points_of s k)

abbrev pub axis_reaches : Settings → Shape → List Axis → ℕ → Bool
axis_reaches = reaches_at rules

-- 6 of cores and axes
unfoldable pub zones_finite : Shape → List Axis → List Float → Check
zones_finite s xs chain = demand_each Number (λ (k : ℕ). core_finite s chain k && axis_finite (axis_at xs k)) s.d 0

-- 7 and 8, before any work
unfoldable pub settings_ok : Bool → Settings → Shape → List Axis → Check
settings_ok mild t s xs =
    demand mild (Setting 0)
    then demand_each Setting (λ (k : ℕ). axis_ok (axis_at xs k)) s.d 0
    then demand_each Reach (axis_reaches t s xs) s.d 0

-- all: `count` records were lent, and scratch has this length. `lone` and `mild` are what 6 and 7 ask of the lone settings
unfoldable pub step_ok : Bool → Bool → Settings → Shape → ℕ → List Axis → List Float → ℕ → Check
step_ok lone mild t s count xs chain scratch =
    chain_ok s
    then demand (eqb count s.d) (Length 0)
    then lengths_ok s 1 (length chain) 2 scratch
    then demand lone (Number 0)
    then zones_finite s xs chain
    then settings_ok mild t s xs

-- ---- `step`
unfoldable pub step_over : Settings → Shape → ℕ → List Axis → List Float → List Float → Ended
step_over t s count xs chain scratch =
    ended_by s chain scratch
    (step_ok (lone_finite t) (lone_ok t) t s count xs chain (length scratch)
    then step t xs (cores_of s chain))

abbrev pub step_call : Settings → Shape → List Axis → List Float → List Float → Ended
step_call t s xs chain scratch = step_over t s (length xs) xs chain scratch

-- ---- `evolve`
-- tau = t_final/steps
unfoldable pub settings_for : Float → ℕ → Float → Cutting → Settings
settings_for final steps c cutting = record { tau = over final (of_int binary64 (pos steps)); c = c; cutting = cutting }

-- the last step's counts, and the greatest value dropped in any; refused at a later step, the chain is that of before the first
unfoldable pub evolve_over : Float → ℕ → Float → Cutting → Shape → ℕ → List Axis → List Float → List Float → Ended
evolve_over final steps c cutting s count xs chain scratch =
    let t = settings_for final steps c cutting in
    ended_as s chain scratch
    (step_ok (course_finite final c cutting) (course_ok final steps cutting) t s count xs chain (length scratch)
    then steps_of steps t xs (cores_of s chain))

abbrev pub evolve_call : Float → ℕ → Float → Cutting → Shape → List Axis → List Float → List Float → Ended
evolve_call final steps c cutting s xs chain scratch = evolve_over final steps c cutting s (length xs) xs chain scratch
