-- The work of a step refuses late: no refusal of it leaves scratch unwritten. Assumes nothing.
use Prim.Native.Nat.{ℕ, zero, suc}
use mathlib.Core.List.{List, map}
use lib.ListN.{length}
use lib.Ieee.{Float}
use Rattle.answers.specs.declared.Part.TheVariants.{Entry}
use Rattle.answers.specs.Outcome.{making}
use Rattle.answers.specs.Table.{Late}
use Rattle.answers.proofs.Late.{late_ok, late_making, late_bind}
use Rattle.numbers.specs.Arithmetic.{plus, times, one64}
use Rattle.lists.specs.Floats.{stored}
use Rattle.lists.specs.Walks.{every}
use Rattle.lists.proofs.Late.{late_every}
use Rattle.shape.specs.Cores.{Core}
use Rattle.stepform.specs.declared.Axis.{Axis}
use Rattle.stepform.specs.declared.Shift.{Shift}
use Rattle.stepform.specs.declared.Shift.TheVariants.{Stay, By}
use Rattle.stepform.specs.Shifts.{shift_of, shifted, move_core, scaled}
use Rattle.cutform.specs.Rounding.{Carry, none, After}
use Rattle.cutform.proofs.Late.{late_rounding}
use Rattle.stepform.specs.declared.Settings.{Settings}
use Rattle.stepform.specs.Zones.{Zone, zones_of, rules}
use Rattle.stepform.specs.Steps.{holding, shift_zone, scale_zone, round_zone, step_from, step, steps_from, steps_of}

-- ---- one core
late_move : (k : ℕ) (s : Shift) (c : Core) → Late (move_core k s c)
late_move k Stay c = late_ok c.entries
late_move k (By ratio boundary) c = late_making Entry k (stored (shifted c ratio boundary))

module _ (t : Settings) where
  late_shift : (k : ℕ) (z : Zone) → Late (shift_zone rules t k z)
  unfolding shift_zone rules
  late_shift k z = let far = shift_of z.axis t.tau z.core.n in late_bind (move_core k far z.core) _ (late_move k far z.core) (λ l. late_ok (holding z.core l))

  late_scale : (k : ℕ) (c : Core) → Late (scale_zone rules t k c)
  unfolding scale_zone rules scaled
  late_scale zero c =
      let m = stored (map (λ (v : Float). times v (plus one64 (times t.tau t.c))) c.entries) in
      late_bind (making Entry 0 m) _ (late_making Entry 0 m) (λ l. late_ok (holding c l))
  late_scale (suc k) c = late_ok c

  -- ---- steps
  -- from zone k on
  pub late_from : (d k : ℕ) (s : Carry) (zs : List Zone) → Late (step_from rules t d k s zs)
  unfolding step_from round_zone rules
  late_from d k s zs =
      late_bind (every (shift_zone rules t) k zs) _ (late_every (shift_zone rules t) late_shift k zs) (λ a.
      late_bind (every (scale_zone rules t) k a) _ (late_every (scale_zone rules t) late_scale k a) (λ b.
      late_rounding t.cutting d k s b))

  pub late_step : (xs : List Axis) (cs : List Core) → Late (step t xs cs)
  unfolding step
  late_step xs cs = late_from (length cs) 0 none (zones_of xs 0 cs)

  late_further : (m : ℕ) (xs : List Axis) (a : After) → Late (steps_from m t xs a)
  unfolding steps_from
  late_further zero xs a = late_ok a
  late_further (suc m) xs a = late_bind (step t xs a.cores) _ (late_step xs a.cores) (λ tr. late_further m xs _)

  pub late_steps : (m : ℕ) (xs : List Axis) (cs : List Core) → Late (steps_of m t xs cs)
  unfolding steps_of
  late_steps m xs cs = late_further m xs _
