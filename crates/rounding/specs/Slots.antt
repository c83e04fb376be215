-- The end of the call. Definitions for code only.
use Rattle.std.specs.Prelude.{ℕ, List, length, take, replicate, Float, Ok, Err}
use Rattle.numbers.specs.Arithmetic.{zero64}
use Rattle.answers.specs.Outcome.{Answer}
use Rattle.lists.specs.Lists.{joined}
use Rattle.lists.specs.Slots.{slot, fit}
use Rattle.lists.specs.Floats.{zeros}
use Rattle.shape.specs.declared.Shape.{Shape}
use Rattle.shape.specs.Limits.{most_axes}
use Rattle.shape.specs.Shapes.{core_size}
use Rattle.cutform.specs.Bonds.{no_bond}
use Rattle.cuts.specs.declared.Walked.{Walked}
use Rattle.cutform.specs.Call.{Ended}

-- the end of a call, by what its rounding came to
abbrev pub finished : Shape → Answer Walked → List Float → List Float → Ended
finished s (Ok w) chain scratch = record {
  result = record { verdict = Ok tt; shape = w.shape; bonds = w.bonds };
  chain = fit zero64 (length chain) (joined s.d (λ (k : ℕ). take (core_size w.shape k) (slot (core_size s) k scratch)));
  scratch = zeros (length scratch);
}
finished s (Err q) chain scratch = record {
  result = record { verdict = Err q; shape = s; bonds = replicate most_axes no_bond };
  chain = chain;
  scratch = zeros (length scratch);
}
