-- A stage's answer with what it made, and a loop whose every turn is a stage or a call, in the form that `search` applies. Assumes nothing.
use mathlib.Core.Path.{◌≡◌, refl, sym, ap, ◌∙◌}
use Prim.Native.Nat.{ℕ, suc, ◌+◌, ◌-◌, ◌<◌, ◌≤◌}
use native.Mathlib.Nat.{sub-zero}
use native.Mathlib.Numerals.{add-one}
use native.Mathlib.Omega.{arith}
use mathlib.Core.Bool.{Bool, true, false}
use mathlib.Core.List.{List}
use lib.Ieee.{Float}
use Rattle.answers.specs.declared.Refusal.{Refusal}
use Rattle.std.specs.Prelude.{Ok, Err, Result}
use Rattle.answers.specs.Outcome.{bind, Made, Answer, stage_of, staged, answered, Stage, Check}
use Rattle.lists.specs.Lists.{pick}
use Rattle.lists.specs.Walks.{turning}
use Rattle.lists.specs.Floats.{all_finite, first_not_finite, stored}

-- ---- one stage
-- numbers to be stored are what was made, with the stage that `lists::stored` answers
pub stored_staged : (l : List Float) (r : Stage) → r ≡ stage_of (stored l) → stored l ≡ staged r l
unfolding stored pick staged
stored_staged l r e = go (all_finite l) ∙ ap (λ (s : Stage). staged s l) (sym e)
  where
    go : (b : Bool) → pick b (Ok l) (Err (first_not_finite l)) ≡ staged (stage_of {A = List Float} (pick b (Ok l) (Err (first_not_finite l)))) l
    go true = refl
    go false = refl

module _ {A B : Type 0} (r : Stage) (a : A) where
  -- a whole stage is gone on from, a spilt one is the answer
  pub staged_on : (k : A → Made B) → r ≡ Ok tt → bind (staged r a) k ≡ k a
  unfolding staged
  staged_on k h = rw h

  pub staged_stop : (k : A → Made B) (i : ℕ) (b : B) → r ≡ Err i → bind (staged r a) k ≡ staged (Err i) b
  unfolding staged
  staged_stop k i b h = rw h

  -- where nothing that follows can refuse, the stage is the answer
  pub staged_last : (f : A → B) → bind (staged r a) (λ x. Ok (f x)) ≡ staged r (f a)
  unfolding staged
  staged_last f = go r
    where
      go : (s : Stage) → bind (staged s a) (λ x. Ok (f x)) ≡ staged s (f a)
      go (Ok _) = refl
      go (Err i) = refl

-- ---- a loop, by what is left of it: T is the whole
module _ {E A : Type 0} (T : Result A E) (hi i : ℕ) (f : ℕ → A → Result A E) (a : A) (e : T ≡ turning (hi - i) i f a) where
  turn_opened : i < hi → (o : Result A E) → f i a ≡ o → T ≡ bind o (λ b. turning (hi - (i + 1)) (i + 1) f b)
  unfolding turning
  turn_opened l o d = let z : hi - i ≡ suc (hi - (i + 1)) = omega arith in e ∙ rw (z, d, add-one)

  turn_closed : hi ≤ i → T ≡ Ok a
  unfolding turning
  turn_closed h = let z : hi - i ≡ 0 = omega arith in e ∙ rw z

pub turning_start : {E A : Type 0} (n : ℕ) (f : ℕ → A → Result A E) (a : A) → turning n 0 f a ≡ turning (n - 0) 0 f a
turning_start n f a = rw sub-zero

-- its turns are stages
module _ {A : Type 0} (T : Made A) (hi i : ℕ) (f : ℕ → A → Made A) (a : A) (e : T ≡ turning (hi - i) i f a) where
  module _ (l : i < hi) (r : Stage) (b : A) (d : f i a ≡ staged r b) where
    pub stage_more : r ≡ Ok tt → T ≡ turning (hi - (i + 1)) (i + 1) f b
    unfolding staged
    stage_more h = turn_opened T hi i f a e l (Ok b) (d ∙ rw h)

    pub stage_stop : (x : ℕ) (c : A) → r ≡ Err x → T ≡ staged (Err x) c
    unfolding staged
    stage_stop x c h = turn_opened T hi i f a e l (Err x) (d ∙ rw h)

  pub stage_done : hi ≤ i → T ≡ staged (Ok tt) a
  unfolding staged
  stage_done h = turn_closed T hi i f a e h

pub ruleset stagings = (turning_start, stage_more, stage_stop, stage_done)

-- its turns are calls
module _ {A : Type 0} (T : Answer A) (hi i : ℕ) (f : ℕ → A → Answer A) (a : A) (e : T ≡ turning (hi - i) i f a) where
  module _ (l : i < hi) (r : Check) (b : A) (d : f i a ≡ answered r b) where
    pub answer_more : r ≡ Ok tt → T ≡ turning (hi - (i + 1)) (i + 1) f b
    unfolding answered
    answer_more h = turn_opened T hi i f a e l (Ok b) (d ∙ rw h)

    pub answer_stop : (x : Refusal) (c : A) → r ≡ Err x → T ≡ answered (Err x) c
    unfolding answered
    answer_stop x c h = turn_opened T hi i f a e l (Err x) (d ∙ rw h)

  pub answer_done : hi ≤ i → T ≡ answered (Ok tt) a
  unfolding answered
  answer_done h = turn_closed T hi i f a e h

pub ruleset answerings = (turning_start, answer_more, answer_stop, answer_done)
