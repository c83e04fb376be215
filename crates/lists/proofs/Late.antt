-- What walks over parts refuses late where each part does. Assumes nothing.
use Prim.Native.Nat.{ℕ, suc}
use mathlib.Core.List.{List, [], ◌∷◌}
use Rattle.answers.specs.Outcome.{Answer}
use Rattle.answers.specs.Table.{Late}
use Rattle.answers.proofs.Late.{late_ok, late_bind}
use Rattle.lists.specs.Walks.{walk, every}

pub late_every : {X Y : Type 0} (f : ℕ → X → Answer Y) → ((k : ℕ) (x : X) → Late (f k x)) → (k : ℕ) (xs : List X) → Late (every f k xs)
unfolding every
late_every f h k [] = late_ok []
late_every f h k (x ∷ xs) = late_bind (f k x) _ (h k x) (λ y. late_bind (every f (suc k) xs) _ (late_every f h (suc k) xs) (λ ys. late_ok (y ∷ ys)))

pub late_walk : {S X Y : Type 0} (f : ℕ → S → X → Answer (S × Y)) → ((k : ℕ) (s : S) (x : X) → Late (f k s x)) → (k : ℕ) (s : S) (xs : List X) → Late (walk f k s xs)
unfolding walk
late_walk f h k s [] = late_ok []
late_walk f h k s (x ∷ xs) = late_bind (f k s x) _ (h k s x) (λ r. late_bind (walk f (suc k) r.0 xs) _ (late_walk f h (suc k) r.0 xs) (λ rs. late_ok (r ∷ rs)))
