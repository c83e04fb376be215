-- The work from zone z on, on any run: the step from the carry that the run holds left of z, then the sums from the sum that it holds there. Definitions only.
use Rattle.std.specs.Prelude.{ℕ, ◌-◌, List, map, Float, Ok}
use Rattle.numbers.specs.Arithmetic.{zero64}
use Rattle.answers.specs.Outcome.{Answer, bind}
use Rattle.lists.specs.Slots.{offset, write}
use Rattle.lists.specs.Walks.{walk}
use Rattle.lists.specs.Floats.{at}
use Rattle.shape.specs.declared.Shape.{Shape}
use Rattle.shape.specs.Cores.{Core}
use Rattle.cutform.specs.Keeping.{Stepped, keep_step}
use Rattle.stepform.specs.Zones.{Rules}
use Rattle.stepform.specs.Steps.{step_from}
use Rattle.sumform.specs.Sums.{sum_size}
use Rattle.runform.specs.Kept.{Inputs, Summed, Kept, running, zones_from, carry_at, sums_at, weighed_from}

-- the figure is the first number of the last axis' sums
unfoldable pub keep_sums : Shape → ℕ → List (List Float × Unit {0}) → Summed → Summed
keep_sums s z tr u =
    let l = write (sum_size s) zero64 s.d z (map (λ (r : List Float × Unit {0}). r.0) tr) u.sums in
    record { sums = l; figure = at l (offset (sum_size s) (s.d - 1)) }

-- ---- the work
module _ (R : Rules) where
  -- one axis of the inner product
  unfoldable pub sum_zone : ℕ → List Float → Core × List Float → Answer (List Float × Unit {0})
  sum_zone k e p = bind (R.weigh k p.0 p.1 e) (λ e'. Ok (e', tt))

  -- all shifts from z on, then the scaling, then the bonds, from the carry left of z
  unfoldable pub restep : Inputs → Stepped → ℕ → Answer Stepped
  restep i t z = bind (step_from R i.set i.shape.d z (carry_at i.shape t z) (zones_from i z)) (λ tr. Ok (keep_step i.shape z tr t))

  -- the sums from z on, over the cores that the run holds, from the sum left of z
  unfoldable pub resum : Inputs → Stepped → Summed → ℕ → Answer Summed
  resum i t u z = bind (walk sum_zone z (sums_at i.shape t u z) (weighed_from i t z)) (λ tr. Ok (keep_sums i.shape z tr u))

  unfoldable pub sum_from : Kept → ℕ → Answer Kept
  sum_from k z = bind (resum k.inputs k.stepped k.summed z) (λ u. Ok (running k.inputs k.stepped u))

  unfoldable pub work_from : Kept → ℕ → Answer Kept
  work_from k z = bind (restep k.inputs k.stepped z) (λ t. sum_from (running k.inputs t k.summed) z)
