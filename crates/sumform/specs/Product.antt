-- The inner product with the zones' weights, as a walk over the cores: the state is the partial sums
-- (001: `inner_separable`, `contract_step`). Definitions only.
use Rattle.std.specs.Prelude.{ℕ, List, [], ◌∷◌, length, Float, Ok}
use Rattle.numbers.specs.Arithmetic.{one64}
use Rattle.answers.specs.declared.Part.TheVariants.{Sum}
use Rattle.answers.specs.Outcome.{Answer, bind, making}
use Rattle.lists.specs.Walks.{walk, state_at}
use Rattle.lists.specs.Floats.{at, stored}
use Rattle.shape.specs.Cores.{Core}
use Rattle.sumform.specs.Contract.{contract}

unfoldable pub contract_at : ℕ → Core → List Float → List Float → Answer (List Float)
contract_at k c f eta = making Sum k (stored (contract c f eta))

-- one axis: a core and its weights
unfoldable pub sum_axis : ℕ → List Float → Core × List Float → Answer (List Float × Unit {0})
sum_axis k eta p = bind (contract_at k p.0 p.1 eta) (λ e. Ok (e, tt))

-- partial sums start as 1
abbrev pub start_sums : List Float
start_sums = one64 ∷ []

unfoldable pub sums : List (Core × List Float) → Answer (List (List Float × Unit {0}))
sums ps = walk sum_axis 0 start_sums ps

-- the figure is the last sum's one number
unfoldable pub inner : List (Core × List Float) → Answer Float
inner ps = bind (sums ps) (λ tr. Ok (at (state_at start_sums tr (length tr)) 0))
