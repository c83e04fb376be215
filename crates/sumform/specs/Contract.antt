-- One axis of the inner product: the partial sums taken over a core and its weights (001: `contract_step`). Definitions only.
use Rattle.std.specs.Prelude.{ℕ, List, Float}
use Rattle.numbers.specs.Arithmetic.{times}
use Rattle.lists.specs.Lists.{tab}
use Rattle.lists.specs.Floats.{at, sum_rows}
use Rattle.shape.specs.Cores.{Core, entry}

-- the new sum at j adds (sum[alpha]*core[alpha,i,j])*f[i], alpha outside, i inside, both ascending
unfoldable pub contract : Core → List Float → List Float → List Float
contract c f eta = tab c.rr (λ (j : ℕ). sum_rows c.rl c.n (λ (alpha i : ℕ). times (times (at eta alpha) (entry c alpha i j)) (at f i)))
