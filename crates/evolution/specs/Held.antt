-- The end of a call that steps. Definitions for code only.
use Rattle.std.specs.Prelude.{◌≡◌, ℕ, List, length, take, replicate, Float, Ok, Err}
use Rattle.answers.specs.declared.Refusal.{Refusal}
use Rattle.answers.specs.Outcome.{Answer}
use Rattle.numbers.specs.Arithmetic.{zero64}
use Rattle.lists.specs.Lists.{joined}
use Rattle.lists.specs.Slots.{slot, fit}
use Rattle.lists.specs.Floats.{zeros}
use Rattle.shape.specs.declared.Shape.{Shape}
use Rattle.shape.specs.Limits.{most_axes}
use Rattle.shape.specs.Shapes.{core_size}
use Rattle.cutform.specs.Bonds.{no_bond}
use Rattle.cuts.specs.declared.Walked.{Walked}
use Rattle.cutform.specs.declared.Rounded.{Rounded}
use Rattle.cutform.specs.Call.{Ended}

-- ---- the end of a call: the steps came to o, the chain was l and scratch held v
pub record Finished (s : Shape) (o : Answer Walked) (l v : List Float) (r : Rounded) (l' v' : List Float) : Type 0 where
  pub cleared : v' ≡ zeros (length v)
  pub refused : (q : Refusal) → o ≡ Err q → (r ≡ record { verdict = Err q; shape = s; bonds = replicate most_axes no_bond }) × (l' ≡ l)
  pub made : (w : Walked) → o ≡ Ok w → (r ≡ record { verdict = Ok tt; shape = w.shape; bonds = w.bonds })
      × (l' ≡ fit zero64 (length l) (joined s.d (λ (k : ℕ). take (core_size w.shape k) (slot (core_size s) k v))))

-- a call answered r and left l' and v'
pub record Answers (e : Ended) (r : Rounded) (l' v' : List Float) : Type 0 where
  pub result : r ≡ e.result
  pub chain : l' ≡ e.chain
  pub scratch : v' ≡ e.scratch
