-- What the sweeps of bonds, and what they dropped, claim of a step and of steps one after another, which proofs/ proves of the calls. Definitions only.
use Rattle.std.specs.Prelude.{◌≡◌, ◌⊎◌, ℕ, zero, suc, ◌<◌, false, List, Float, Ok}
use Rattle.std.specs.Float.Ieee.{lt}
use Rattle.numbers.specs.Arithmetic.{zero64}
use Rattle.answers.specs.Outcome.{Answer, bind}
use Rattle.lists.specs.Walks.{every}
use Rattle.shape.specs.Cores.{Core}
use Rattle.stepform.specs.declared.Axis.{Axis}
use Rattle.cutform.specs.declared.Bond.{Bond}
use Rattle.cutform.specs.Rounding.{Carry, Cut, cores_in, after_cuts}
use Rattle.cutform.specs.Keeping.{dropped_among}
use Rattle.cutform.specs.Claims.{RoundCounted}
use Rattle.stepform.specs.declared.Settings.{Settings}
use Rattle.stepform.specs.Zones.{zones_of, rules}
use Rattle.stepform.specs.Steps.{shift_zone, scale_zone, step}

-- the cores that a step rounds: all shifted, then core 0 scaled
unfoldable pub moved : Settings → List Axis → List Core → Answer (List Core)
moved t xs cs = bind (every (shift_zone rules t) 0 (zones_of xs 0 cs)) (λ a. every (scale_zone rules t) 0 a)

-- the sweeps of the bonds of one step of the cores cs
pub record StepCounted (t : Settings) (xs : List Axis) (cs : List Core) (bonds : List Bond) : Type 0 where
  pub cores : List Core
  pub moves : moved t xs cs ≡ Ok cores
  pub counted : RoundCounted t.cutting cores bonds

-- the cores after m steps
unfoldable pub cores_after : ℕ → Settings → List Axis → List Core → Answer (List Core)
cores_after zero t xs cs = Ok cs
cores_after (suc m) t xs cs = bind (step t xs cs) (λ tr. cores_after m t xs (cores_in tr))

-- the sweeps of the bonds of the last one of steps, m before it
pub record LastCounted (m : ℕ) (t : Settings) (xs : List Axis) (cs : List Core) (bonds : List Bond) : Type 0 where
  pub cores : List Core
  pub before : cores_after m t xs cs ≡ Ok cores
  pub last : StepCounted t xs cores bonds

-- y is what bond k dropped in step i, from 0, of steps over the cores cs
pub record DroppedIn (i : ℕ) (t : Settings) (xs : List Axis) (cs : List Core) (k : ℕ) (y : Float) : Type 0 where
  pub cores : List Core
  pub before : cores_after i t xs cs ≡ Ok cores
  pub cuts : List (Carry × Cut)
  pub made : step t xs cores ≡ Ok cuts
  pub value : dropped_among (after_cuts cuts).bonds k ≡ y

-- x is the greatest value that bond k dropped in m steps: none of them dropped more, and one of them dropped it, or it is +0
pub record Greatest (m : ℕ) (t : Settings) (xs : List Axis) (cs : List Core) (k : ℕ) (x : Float) : Type 0 where
  pub most : (i : ℕ) (y : Float) → i < m → DroppedIn i t xs cs k y → lt x y ≡ false
  pub one : (x ≡ zero64) ⊎ ((i : ℕ) × (i < m) × DroppedIn i t xs cs k x)
