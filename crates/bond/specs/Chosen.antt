-- The values of a square matrix, their order, how many are kept and the largest that is not, as one stage. Definitions for the code only.
use Rattle.std.specs.Prelude.{ℕ, List, Float, Ok}
use Rattle.answers.specs.Outcome.{Made, bind}
use Rattle.lists.specs.Floats.{stored}
use Rattle.cutform.specs.Values.{singulars, order, sorted, kept_rank, dropped_from}

pub record Chosen : Type 0 where
  pub rank : ℕ
  pub dropped : Float
  pub order : List ℕ
  pub values : List Float

unfoldable pub chosen_of : Float → ℕ → List Float → Made Chosen
chosen_of eps n g =
    bind (stored (singulars n g)) (λ sv.
    let ss = sorted n sv in
    let r = kept_rank eps n ss in
    Ok (record { rank = r; dropped = dropped_from r ss; order = order n sv; values = ss }))
