-- The call `inner_separable`. Definitions only.
use Rattle.std.specs.Prelude.{ℕ, ◌&&◌, List, eqb, length, Float}
use Rattle.answers.specs.declared.Refusal.TheVariants.{Length, Number}
use Rattle.answers.specs.Outcome.{Answer, Check, ◌then◌, demand, demand_each}
use Rattle.lists.specs.Lists.{tab}
use Rattle.lists.specs.Floats.{all_finite}
use Rattle.shape.specs.declared.Shape.{Shape}
use Rattle.shape.specs.Shapes.{chain_ok, entries_of, all_points}
use Rattle.shape.specs.Cores.{Core, core_at, points_at}
use Rattle.sumform.specs.Product.{inner}

-- slices are the chain, the weights
unfoldable pub inner_lent : Shape → ℕ → ℕ → Check
inner_lent s chain weights = demand (eqb chain (entries_of s)) (Length 0) then demand (eqb weights (all_points s)) (Length 1)

unfoldable pub inner_finite : Shape → List Float → List Float → Check
inner_finite s chain weights = demand_each Number (λ (k : ℕ). all_finite (core_at s chain k).entries && all_finite (points_at s weights k)) s.d 0

unfoldable pub inner_ok : Shape → List Float → List Float → Check
inner_ok s chain weights = chain_ok s then inner_lent s (length chain) (length weights) then inner_finite s chain weights

-- each core with its axis' weights
unfoldable pub weighed : Shape → List Float → List Float → List (Core × List Float)
weighed s chain weights = tab s.d (λ (k : ℕ). (core_at s chain k, points_at s weights k))

unfoldable pub inner_call : Shape → List Float → List Float → Answer Float
inner_call s chain weights = inner_ok s chain weights then inner (weighed s chain weights)
