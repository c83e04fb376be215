-- A fresh run as the scope says it, by the definitions of `step` and `inner_separable`: one step, then the inner product
-- over the step's own cores. Definitions only.
use Rattle.std.specs.Prelude.{ℕ, suc, List, [], ◌∷◌, Float, Ok}
use Rattle.answers.specs.Outcome.{Answer, bind}
use Rattle.shape.specs.declared.Shape.{Shape}
use Rattle.shape.specs.Cores.{Core, cores_of, points_at}
use Rattle.cutform.specs.Rounding.{cores_in}
use Rattle.sumform.specs.Product.{sums, inner}
use Rattle.stepform.specs.Steps.{step}
use Rattle.runform.specs.Kept.{Inputs, Kept, running, blank}
use Rattle.runform.specs.Work.{keep_sums}
use Rattle.cutform.specs.Keeping.{keep_step}

-- each core with its axis' weights, the first being number k
unfoldable pub paired : Shape → List Float → ℕ → List Core → List (Core × List Float)
paired s weights k [] = []
paired s weights k (c ∷ cs) = (c, points_at s weights k) ∷ paired s weights (suc k) cs

-- what the step and the sums leave is kept in the slots of a blank run, and the figure is the inner product
unfoldable pub step_then_inner : Inputs → Answer Kept
step_then_inner i =
    let s = i.shape in
    bind (step i.set i.axes (cores_of s i.source)) (λ tr.
    let ps = paired s i.weights 0 (cores_in tr) in
    bind (sums ps) (λ e.
    bind (inner ps) (λ x.
    Ok (running i (keep_step s 0 tr (blank i).stepped) (record { sums = (keep_sums s 0 e (blank i).summed).sums; figure = x })))))
