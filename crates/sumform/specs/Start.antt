-- The separable start reads d and the sizes n alone; slices are the vectors, the chain. Definitions only.
use Rattle.std.specs.Prelude.{ℕ, List, eqb, length, replicate, Float, Ok, Err}
use Rattle.answers.specs.declared.Refusal.TheVariants.{Axes, Size, Length, Number}
use Rattle.answers.specs.Outcome.{Answer, Check, ◌then◌, demand, demand_each}
use Rattle.lists.specs.Floats.{all_finite}
use Rattle.shape.specs.declared.Shape.{Shape}
use Rattle.shape.specs.Limits.{most_axes, most_points, within}
use Rattle.shape.specs.Shapes.{points_of, all_points}
use Rattle.shape.specs.Cores.{points_at}

unfoldable pub start_sized : Shape → Check
start_sized s = demand (within most_axes s.d) Axes then demand_each Size (λ (k : ℕ). within most_points (points_of s k)) s.d 0

unfoldable pub start_lent : Shape → ℕ → ℕ → Check
start_lent s vectors chain = demand (eqb vectors (all_points s)) (Length 0) then demand (eqb chain (all_points s)) (Length 1)

unfoldable pub start_finite : Shape → List Float → Check
start_finite s vectors = demand_each Number (λ (k : ℕ). all_finite (points_at s vectors k)) s.d 0

unfoldable pub start_ok : Shape → List Float → ℕ → Check
start_ok s vectors chain = start_sized s then start_lent s (length vectors) chain then start_finite s vectors

-- the shape with every rank 1
unfoldable pub rank_one : Shape → Shape
rank_one s = record { d = s.d; left = replicate most_axes 1; n = s.n; right = replicate most_axes 1 }

-- what the call answers, the shape of the chain that it makes, and what stands in the chain
pub record StartEnded : Type 0 where
  pub result : Answer Shape
  pub chain : List Float

-- core k is (1, n, 1) and holds vector k, so the chain's numbers are the vectors'
abbrev pub start_by : Shape → List Float → List Float → Check → StartEnded
start_by s vectors chain (Ok u) = record { result = Ok (rank_one s); chain = vectors }
start_by s vectors chain (Err r) = record { result = Err r; chain = chain }

unfoldable pub start_call : Shape → List Float → List Float → StartEnded
start_call s vectors chain = start_by s vectors chain (start_ok s vectors (length chain))
