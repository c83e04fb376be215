-- Entries that were made and are stored, as a call answers it. Assumes nothing.
use mathlib.Core.Path.{◌≡◌, sym, ap, ◌∙◌}
use Prim.Native.Nat.{ℕ}
use mathlib.Core.List.{List}
use lib.Ieee.{Float}
use Rattle.answers.specs.declared.Part.TheVariants.{Entry}
use Rattle.answers.specs.Outcome.{making, answered, stage_of, stored_in, Stage, Check}
use Rattle.answers.proofs.Outcomes.{stored_answered}
use Rattle.lists.specs.Floats.{stored}
use Rattle.lists.proofs.Stages.{stored_staged}

-- m is what was to be made, s what `lists::stored` says of it, r what `answers::stored_in` makes of that
pub entries_stored : (k : ℕ) (l m : List Float) (s : Stage) (r : Check) → m ≡ l → s ≡ stage_of (stored m) → r ≡ stored_in Entry k s → making Entry k (stored l) ≡ answered r m
entries_stored k l m s r e d h = ap (λ (x : List Float). making Entry k (stored x)) (sym e) ∙ ap (making Entry k) (stored_staged m s d) ∙ stored_answered Entry k s r m h
