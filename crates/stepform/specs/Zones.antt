-- What a step reads of a zone, and the rules of 000 and 001 for one zone. Definitions only.
use Rattle.std.specs.Prelude.{ℕ, suc, Bool, List, [], ◌∷◌, Float}
use Rattle.answers.specs.Outcome.{Answer}
use Rattle.shape.specs.Cores.{Core}
use Rattle.stepform.specs.declared.Axis.{Axis}
use Rattle.stepform.specs.Axes.{axis_at}
use Rattle.stepform.specs.Shifts.{shift_of, reaches, move_core, scaled}
use Rattle.cutform.specs.Rounding.{Carry, Cut, round_core}
use Rattle.sumform.specs.Product.{contract_at}
use Rattle.stepform.specs.declared.Settings.{Settings}

pub record Zone : Type 0 where
  pub core : Core
  pub axis : Axis

abbrev pub zone : Core → Axis → Zone
zone c x = record { core = c; axis = x }

-- the cores with their axes, the first being number k
unfoldable pub zones_of : List Axis → ℕ → List Core → List Zone
zones_of xs k [] = []
zones_of xs k (c ∷ cs) = zone c (axis_at xs k) ∷ zones_of xs (suc k) cs

-- ---- the rules, each for zone k alone. What walks over zones takes them as a parameter, so what is proved of the walks holds of any rules
pub record Rules : Type 0 where
  -- refusal 8 spares it: by its axis and its number of points
  pub reaches : Settings → Axis → ℕ → Bool
  -- its core's numbers, shifted
  pub shift : Settings → ℕ → Zone → Answer (List Float)
  -- core 0's numbers, scaled
  pub scale : Settings → List Float → Answer (List Float)
  -- its core, from the carry on its left; whether a bond stands to its right
  pub round : Settings → Bool → ℕ → Carry → Core → Answer (Carry × Cut)
  -- its partial sums, from those on its left and its weights
  pub weigh : ℕ → Core → List Float → List Float → Answer (List Float)

unfoldable pub rules : Rules
rules = record {
  reaches = λ t x n. reaches (shift_of x t.tau n);
  shift = λ t k z. move_core k (shift_of z.axis t.tau z.core.n) z.core;
  scale = λ t l. scaled t.tau t.c l;
  round = λ t more k s c. round_core t.cutting more k s c;
  weigh = contract_at;
}
