-- What the two calls share. Definitions only.
use Rattle.std.specs.Prelude.{ℕ, List, Float}
use Rattle.answers.specs.declared.Refusal.TheVariants.{Number}
use Rattle.answers.specs.Outcome.{Check, demand_each}
use Rattle.lists.specs.Slots.{slot}
use Rattle.lists.specs.Floats.{all_finite}
use Rattle.shape.specs.declared.Shape.{Shape}
use Rattle.shape.specs.Shapes.{core_size}

-- what a call leaves: its result, and what its lent output holds at exit
pub record Exit (R A : Type 0) : Type 0 where
  pub result : R
  pub out : List A

-- refusal 6 at the first core with a number that isn't finite
unfoldable pub numbers_ok : Shape → List Float → Check
numbers_ok s chain = demand_each Number (λ (k : ℕ). all_finite (slot (core_size s) k chain)) s.d 0
