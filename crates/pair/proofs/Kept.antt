-- What the two new cores may ask of the kept rank and the order. Assumes nothing.
use mathlib.Core.Path.{◌≡◌, ap, ◌∙◌}
use Prim.Native.Nat.{ℕ, ◌-◌, ◌≤◌}
use native.Mathlib.Omega.{arith}
use mathlib.Core.Bool.{true}
use mathlib.Core.List.{List, ◌++◌}
use lib.ListN.{length, take, length-append}
use lib.Ieee.{Float}
use Rattle.lists.proofs.Parts.{span_again, span_length}
use Rattle.lists.specs.Floats.{all_finite}
use Rattle.cutform.specs.Values.{order, kept_rank}
use Rattle.cutform.proofs.Ranked.{order_lt, rank_most}
use Rattle.bond.specs.FactorRows.{Columns}

pub rank_within : (eps : Float) (n r : ℕ) (ss : List Float) → r ≡ kept_rank eps n ss → 1 ≤ n → r ≤ n
rank_within eps n r ss e h = let m = rank_most eps n ss h in omega arith

pub kept_columns : (n : ℕ) (sv : List Float) → length sv ≡ n → all_finite sv ≡ true → (js : List ℕ) → js ≡ order n sv → (r : ℕ) → r ≤ n → Columns n js r
kept_columns n sv long fine js e r h j l = order_lt n sv long fine js e j (omega arith)

-- a part that was lent from the front of l, and is read again there
module _ {A : Type 0} (n : ℕ) (x r l : List A) (e : length x ≡ length (take (n - 0) l)) (h : n ≤ length l) where
  lent_long : length x ≡ n
  lent_long = e ∙ span_length n l h

  pub lent_end : n ≤ length (x ++ r)
  lent_end = let z = lent_long in rw length-append (omega arith)

  pub lent_again : take (n - 0) (x ++ r) ≡ x
  lent_again = span_again n x r lent_long

  pub lent_some : (k : ℕ) → k ≤ n → k ≤ length (take (n - 0) (x ++ r))
  lent_some k g = let z = ap length lent_again ∙ lent_long in omega arith
