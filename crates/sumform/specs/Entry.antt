-- An entry of a chain by the published definition (I. Oseledets, "Tensor-Train Decomposition", 2011): the product of the matrices that the cores
-- hold at the indices, from the left, sums ascending. Every sum starts at +0, one of a single term too, so no entry is -0. Definitions only.
use Rattle.std.specs.Prelude.{◌≡◌, ℕ, ◌<◌, List, [], ◌∷◌, Float}
use Rattle.numbers.specs.Arithmetic.{times, zero64, one64}
use Rattle.numbers.specs.Zeros.{unsigned, Alike}
use Rattle.lists.specs.Lists.{tab}
use Rattle.lists.specs.Floats.{at, sum_to}
use Rattle.shape.specs.declared.Shape.{Shape}
use Rattle.shape.specs.Cores.{Core, entry, core_at}

-- a row of numbers times the matrix that the core c holds at index i
unfoldable pub row_times : List Float → Core → ℕ → List Float
row_times v c i = tab c.rr (λ (j : ℕ). sum_to c.rl (λ (alpha : ℕ). times (at v alpha) (entry c alpha i j)))

-- from the row v on, each core with its index
unfoldable pub row_after : List Float → List (Core × ℕ) → List Float
row_after v [] = v
row_after v (p ∷ ps) = row_after (row_times v p.0 p.1) ps

unfoldable pub tt_entry : List (Core × ℕ) → Float
tt_entry ps = at (row_after (one64 ∷ []) ps) 0

-- the entry of a chain at the indices i
unfoldable pub entry_at : Shape → List Float → (ℕ → ℕ) → Float
entry_at s chain i = tt_entry (tab s.d (λ (k : ℕ). (core_at s chain k, i k)))

-- ---- what the theorems speak of
-- weights of n points: 1 at index i, a zero of either sign elsewhere
pub record OneAt (n i : ℕ) (w : List Float) : Type 0 where
  pub inside : i < n
  pub one : at w i ≡ one64
  pub elsewhere : (j : ℕ) → j < n → ¬ (j ≡ i) → Alike (at w j) zero64

-- x is not -0
abbrev pub NotMinusZero : Float → Type 0
NotMinusZero x = unsigned x ≡ x
