-- Both cores' numbers stage by stage, in the form that proofs of code cite. Assumes nothing.
use mathlib.Core.Path.{◌≡◌, refl, sym, ap, ◌∙◌}
use Prim.Native.Nat.{ℕ, ◌-◌, ◌*◌}
use mathlib.Core.List.{List, ◌++◌}
use lib.ListN.{take}
use lib.Ieee.{Float}
use Rattle.answers.specs.declared.Part.TheVariants.{Factor}
use Rattle.answers.specs.declared.Refusal.{Refusal}
use Rattle.std.specs.Prelude.{Ok, Err}
use Rattle.answers.specs.Outcome.{Made, Answer, bind, making, staged, stage_of, stored_in, answered, Stage, Check}
use Rattle.answers.proofs.Outcomes.{stored_answered}
use Rattle.lists.specs.Lists.{grid}
use Rattle.lists.specs.Floats.{stored}
use Rattle.lists.proofs.Parts.{part_again, span_again}
use Rattle.lists.proofs.Stages.{stored_staged}
use Rattle.lists.proofs.Tables.{length_grid}
use Rattle.pair.specs.Rows.{left_rows, right_rows, Both, formed_from}

-- rows at the front of a list that was looked over as far as they go
pub front_stored : (m w : ℕ) (f : ℕ → ℕ → Float) (u d : List Float) → u ≡ grid m w f ++ d → (s : Stage) → s ≡ stage_of (stored (take (m * w - 0) u)) → stored (grid m w f) ≡ staged s (take (m * w) u)
front_stored m w f u d e s es =
    let long = length_grid m w f in
    let looked : take (m * w - 0) u ≡ grid m w f = ap (take (m * w - 0)) e ∙ span_again (m * w) (grid m w f) d long in
    let front : take (m * w) u ≡ grid m w f = ap (take (m * w)) e ∙ part_again (m * w) (grid m w f) d long in
    stored_staged (grid m w f) s (es ∙ ap (λ (l : List Float). stage_of (stored l)) looked) ∙ ap (staged s) (sym front)

-- ---- one core after the other
module _ (m n r : ℕ) (ss : List Float) (js : List ℕ) (a v : List Float) (p : Stage) (x : List Float) (ex : stored (left_rows m r ss js a) ≡ staged p x) where
  opened : formed_from m n r ss js a v ≡ bind (making Factor 0 (staged p x)) (λ l. bind (making Factor 1 (stored (right_rows n r js v))) (λ y. Ok (record { left = l; right = y })))
  unfolding formed_from
  opened = ap (λ (o : Made (List Float)). bind (making Factor 0 o) (λ l. bind (making Factor 1 (stored (right_rows n r js v))) (λ y. Ok (record { left = l; right = y })))) ex

  -- u is what the call answers of the left core
  module _ (u : Check) (told : u ≡ stored_in Factor 0 p) where
    left_made : formed_from m n r ss js a v ≡ bind (answered u x) (λ l. bind (making Factor 1 (stored (right_rows n r js v))) (λ y. Ok (record { left = l; right = y })))
    left_made =
        opened
        ∙ ap (λ (o : Answer (List Float)). bind o (λ l. bind (making Factor 1 (stored (right_rows n r js v))) (λ y. Ok (record { left = l; right = y })))) (stored_answered Factor 0 p u x told)

    pub left_stop : (q : Refusal) (h : Both) → u ≡ Err q → formed_from m n r ss js a v ≡ answered (Err q) h
    unfolding answered
    left_stop q h e = left_made ∙ rw e

    module _ (e : u ≡ Ok tt) (q : Stage) (y : List Float) (ey : stored (right_rows n r js v) ≡ staged q y) where
      right_opened : formed_from m n r ss js a v ≡ bind (making Factor 1 (staged q y)) (λ z. Ok (record { left = x; right = z }))
      unfolding answered
      right_opened = left_made ∙ rw (e, ey)

      -- and w of the right one
      pub right_end : (w : Check) → w ≡ stored_in Factor 1 q → formed_from m n r ss js a v ≡ answered w (record { left = x; right = y })
      unfolding answered
      right_end w f =
          right_opened ∙ ap (λ (o : Answer (List Float)). bind o (λ z. Ok (record { left = x; right = z }))) (stored_answered Factor 1 q w y f) ∙ go w
        where
          go : (w : Check) → ◌≡◌ {A = Answer Both} (bind (answered w y) (λ z. Ok (record { left = x; right = z }))) (answered w (record { left = x; right = y }))
          go (Ok _) = refl
          go (Err q) = refl
