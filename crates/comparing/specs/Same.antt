-- What a comparison tells, and what two runs have in common where they agree. Definitions only.
use Rattle.std.specs.Prelude.{◌≡◌, Bool, true, List, Float}
use Rattle.runform.specs.declared.Run.{Run}
use Rattle.runform.specs.Slices.{Outputs}

-- The answer is true exactly where X holds. Two f64 are equal here where their bits are, every NaN having the same ones.
pub record Tells (answer : Bool) (X : Type 0) : Type 0 where
  pub only : answer ≡ true → X
  pub always : X → answer ≡ true

-- they keep the same; their inputs are not compared
pub record SameRecord (a b : Run) : Type 0 where
  pub bonds : a.bonds ≡ b.bonds
  pub figure : a.figure ≡ b.figure

-- and so do their slices
pub record SameKept (a b : Run) (m n : Outputs (List Float)) : Type 0 where
  pub told : SameRecord a b
  pub outputs : m ≡ n
