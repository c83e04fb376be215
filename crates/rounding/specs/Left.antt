-- What a call leaves in the chain, by what its work came to. Definitions for code only.
use Rattle.std.specs.Prelude.{ℕ, List, length, take, Float, Ok, Err}
use Rattle.numbers.specs.Arithmetic.{zero64}
use Rattle.answers.specs.Outcome.{Answer}
use Rattle.lists.specs.Lists.{joined}
use Rattle.lists.specs.Slots.{slot, fit}
use Rattle.shape.specs.declared.Shape.{Shape}
use Rattle.shape.specs.Shapes.{core_size}
use Rattle.cuts.specs.declared.Walked.{Walked}

-- refused, it stays; else it is packed from the places where its cores stood, with its new sizes
abbrev pub left_by : Answer Walked → Shape → List Float → List Float → List Float
left_by (Ok x) s chain work = fit zero64 (length chain) (joined s.d (λ (k : ℕ). take (core_size x.shape k) (slot (core_size s) k work)))
left_by (Err q) s chain work = chain
