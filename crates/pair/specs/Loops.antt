-- How the split of a slab's columns goes, stage by stage, by its rows and columns alone. Definitions for loops only.
use Rattle.std.specs.Prelude.{ℕ, ◌≤◌, List, leb, Float, Ok}
use Rattle.answers.specs.declared.Part.TheVariants.{Spectrum}
use Rattle.answers.specs.declared.Refusal.TheVariants.{PairRank}
use Rattle.answers.specs.Outcome.{Made, Answer, bind, ◌then◌, demand, making}
use Rattle.lists.specs.Floats.{stored}
use Rattle.shape.specs.Limits.{most_rank, most_lines}
use Rattle.cutform.specs.Rotation.{eye}
use Rattle.cutform.specs.Values.{order, sorted, kept_rank}
use Rattle.pairform.specs.Passes.{svd, Passes, orthogonalized}
use Rattle.pair.specs.Rows.{Both, formed_from}
use Rattle.pairform.specs.Splits.{values}

-- what the checks say of a slab's rows and columns
pub record Lines (m n : ℕ) : Type 0 where
  pub rows : m ≤ most_lines
  pub columns : n ≤ most_lines
  pub some : 1 ≤ n

-- columns after their passes, and their values
pub record Valued : Type 0 where
  pub passes : Passes
  pub values : List Float

unfoldable pub valued_from : ℕ → ℕ → List Float → Made Valued
valued_from m n a =
    bind (orthogonalized m n (svd a (eye n))) (λ w.
    bind (stored (values m n w.svd.columns)) (λ sv.
    Ok (record { passes = w; values = sv })))

-- the kept rank, the numbers of the two cores, and the passes made
pub record Parted : Type 0 where
  pub rank : ℕ
  pub left : List Float
  pub right : List Float
  pub passes : ℕ

abbrev pub parted : ℕ → ℕ → Both → Parted
parted r c h = record { rank = r; left = h.left; right = h.right; passes = c }

unfoldable pub cut_from : Float → (m n : ℕ) → Passes → List Float → Answer Parted
cut_from eps m n w sv =
    let ss = sorted n sv in
    let r = kept_rank eps n ss in
    demand (leb r most_rank) PairRank then bind (formed_from m n r ss (order n sv) w.svd.columns w.svd.basis) (λ h. Ok (parted r w.count h))

unfoldable pub split_from : Float → (m n : ℕ) → List Float → Answer Parted
split_from eps m n a = bind (making Spectrum 0 (valued_from m n a)) (λ d. cut_from eps m n d.passes d.values)
