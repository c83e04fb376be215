-- A walk keeps what each turn keeps: by count, and along a list. Assumes nothing.
use Rattle.std.specs.Prelude.{Result, Ok}
use mathlib.Core.Path.{◌≡◌}
use Prim.Native.Nat.{ℕ, zero, suc}
use mathlib.Core.List.{List, [], ◌∷◌}
use Rattle.answers.proofs.Outcomes.{bind_ok, ok_inj}
use Rattle.lists.specs.Walks.{turning, along}

pub turning_keeps : {E A : Type 0} (P : A → Type 0) (f : ℕ → A → Result A E) → ((i : ℕ) (a b : A) → P a → f i a ≡ Ok b → P b)
    → (m k : ℕ) (a b : A) → P a → turning m k f a ≡ Ok b → P b
unfolding turning
turning_keeps P f h zero k a b p e = rw (← ok_inj e) p
turning_keeps P f h (suc m) k a b p e = let (c, d, g) = bind_ok (f k a) (λ x. turning m (suc k) f x) b e in turning_keeps P f h m (suc k) c b (h k a c p d) g

pub along_keeps : {E X A : Type 0} (P : A → Type 0) (f : X → A → Result A E) → ((x : X) (a b : A) → P a → f x a ≡ Ok b → P b)
    → (xs : List X) (a b : A) → P a → along xs f a ≡ Ok b → P b
unfolding along
along_keeps P f k [] a b p h = rw (← ok_inj h) p
along_keeps P f k (x ∷ xs) a b p h = let (c, e, g) = bind_ok (f x a) (λ d. along xs f d) b h in along_keeps P f k xs c b (k x a c p e) g
