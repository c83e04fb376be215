-- A step over zones: all shifts, then the scaling of core 0, then the bonds left to right; and steps one after another
-- (001: `step`, `evolve`). Definitions only.
use Rattle.std.specs.Prelude.{ℕ, zero, suc, List, ltb, length, replicate, Float, Ok}
use Rattle.std.specs.Float.Ieee.{lt}
use Rattle.answers.specs.Outcome.{Answer, bind}
use Rattle.lists.specs.Lists.{pick, tab}
use Rattle.lists.specs.Walks.{every, walk}
use Rattle.shape.specs.Limits.{most_axes}
use Rattle.shape.specs.Cores.{Core, core_with}
use Rattle.stepform.specs.declared.Axis.{Axis}
use Rattle.cutform.specs.declared.Bond.{Bond}
use Rattle.cutform.specs.Bonds.{no_bond}
use Rattle.cutform.specs.Keeping.{bond_among}
use Rattle.cutform.specs.Rounding.{Carry, none, Cut, cores_in, After, after_cuts}
use Rattle.stepform.specs.declared.Settings.{Settings}
use Rattle.stepform.specs.Zones.{Zone, zones_of, Rules, rules}

-- a core with new numbers
abbrev pub holding : Core → List Float → Core
holding c l = core_with c.rl c.n c.rr l

module _ (R : Rules) (t : Settings) where
  unfoldable pub shift_zone : ℕ → Zone → Answer Core
  shift_zone k z = bind (R.shift t k z) (λ l. Ok (holding z.core l))

  -- scaling is core 0's alone
  unfoldable pub scale_zone : ℕ → Core → Answer Core
  scale_zone zero c = bind (R.scale t c.entries) (λ l. Ok (holding c l))
  scale_zone (suc k) c = Ok c

  -- zone k of d
  unfoldable pub round_zone : ℕ → ℕ → Carry → Core → Answer (Carry × Cut)
  round_zone d k s c = R.round t (ltb (suc k) d) k s c

  -- the zones from number k of d on, with the carry left of them
  unfoldable pub step_from : ℕ → ℕ → Carry → List Zone → Answer (List (Carry × Cut))
  step_from d k s zs =
      bind (every shift_zone k zs) (λ a.
      bind (every scale_zone k a) (λ b.
      walk (round_zone d) k s b))

-- one step of a whole chain
unfoldable pub step : Settings → List Axis → List Core → Answer (List (Carry × Cut))
step t xs cs = step_from rules t (length cs) 0 none (zones_of xs 0 cs)

-- ---- steps one after another
-- the greater of two numbers, the first where neither is
unfoldable pub greater : Float → Float → Float
greater x y = pick (lt x y) y x

-- what is said of a bond after a further step, which says b: all that b says, but for the greatest value that was dropped so far
unfoldable pub further_bond : Bond → Bond → Bond
further_bond said b = record { rank = b.rank; sweeps = b.sweeps; settled = b.settled; dropped = greater said.dropped b.dropped }

-- and of all bonds
unfoldable pub further : List Bond → List Bond → List Bond
further said bonds = tab most_axes (λ (k : ℕ). further_bond (bond_among said k) (bond_among bonds k))

-- m steps, each from the chain that the last one left
unfoldable pub steps_from : ℕ → Settings → List Axis → After → Answer After
steps_from zero t xs a = Ok a
steps_from (suc m) t xs a =
    bind (step t xs a.cores) (λ tr. steps_from m t xs (record { cores = cores_in tr; bonds = further a.bonds (after_cuts tr).bonds }))

-- of a chain of which nothing is said yet: of each bond +0 was dropped
unfoldable pub steps_of : ℕ → Settings → List Axis → List Core → Answer After
steps_of m t xs cs = steps_from m t xs (record { cores = cs; bonds = replicate most_axes no_bond })
