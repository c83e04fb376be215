-- Walks whose every turn can refuse: over a count, over zones each by itself, over zones with a state. Definitions only.
use Rattle.std.specs.Prelude.{ℕ, zero, suc, List, [], ◌∷◌, Result, Ok}
use Rattle.answers.specs.Outcome.{bind}

-- m turns from i on, each from what the last one made
unfoldable pub turning : {E A : Type 0} → ℕ → ℕ → (ℕ → A → Result A E) → A → Result A E
turning zero i f a = Ok a
turning (suc m) i f a = bind (f i a) (λ b. turning m (suc i) f b)

-- a turn for each of the list, each from what the last one made
unfoldable pub along : {E X A : Type 0} → List X → (X → A → Result A E) → A → Result A E
along [] f a = Ok a
along (x ∷ xs) f a = bind (f x a) (λ b. along xs f b)

-- each zone by itself, from number k on
module _ {E X Y : Type 0} (f : ℕ → X → Result Y E) where
  unfoldable pub every : ℕ → List X → Result (List Y) E
  every k [] = Ok []
  every k (x ∷ xs) = bind (f k x) (λ y. bind (every (suc k) xs) (λ ys. Ok (y ∷ ys)))

-- the zones from number k on, from the state s: what each zone left, the state first
module _ {E S X Y : Type 0} (f : ℕ → S → X → Result (S × Y) E) where
  unfoldable pub walk : ℕ → S → List X → Result (List (S × Y)) E
  walk k s [] = Ok []
  walk k s (x ∷ xs) = bind (f k s x) (λ r. bind (walk (suc k) r.0 xs) (λ rs. Ok (r ∷ rs)))

-- the state left of zone z
abbrev pub state_at : {S Y : Type 0} → S → List (S × Y) → ℕ → S
state_at s tr zero = s
state_at s [] (suc z) = s
state_at s (r ∷ tr) (suc z) = state_at r.0 tr z
