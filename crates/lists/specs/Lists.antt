-- Lists by index, and counting loops. Definitions only.
use Rattle.std.specs.Prelude.{ℕ, zero, suc, ◌+◌, ◌-◌, Bool, true, false, cond, not, List, [], ◌∷◌, ◌++◌}

-- a where the test holds, else b
unfoldable pub pick : {A : Type 0} → Bool → A → A → A
pick true a b = a
pick false a b = b

-- f k, f (k + 1), .., m of them
unfoldable pub listed : {A : Type 0} → ℕ → ℕ → (ℕ → A) → List A
listed zero k f = []
listed (suc m) k f = f k ∷ listed m (suc k) f

-- f 0, f 1, .., f (n - 1)
abbrev pub tab : {A : Type 0} → ℕ → (ℕ → A) → List A
tab n f = listed n 0 f

-- lists one after another without gaps
unfoldable pub flat : {A : Type 0} → List (List A) → List A
flat [] = []
flat (x ∷ xs) = x ++ flat xs

-- f 0, f 1, .., f (m - 1) one after another
abbrev pub joined : {A : Type 0} → ℕ → (ℕ → List A) → List A
joined m f = flat (tab m f)

-- m rows of n: f i j stands at i * n + j
abbrev pub grid : {A : Type 0} → ℕ → ℕ → (ℕ → ℕ → A) → List A
grid m n f = joined m (λ (i : ℕ). tab n (f i))

-- the first i from lo on, among d, at which p holds, and lo + d where there is none
abbrev pub first_from : (ℕ → Bool) → ℕ → ℕ → ℕ
first_from p lo zero = lo
first_from p lo (suc d) = cond (p lo) lo (first_from p (suc lo) d)

-- the first below n, or n
unfoldable pub first : (ℕ → Bool) → ℕ → ℕ
first p n = first_from p 0 n

-- the first below n at which p fails, or n
unfoldable pub first_not : (ℕ → Bool) → ℕ → ℕ
first_not p n = first (λ (i : ℕ). not (p i)) n

-- how many i below n there are at which p holds
unfoldable pub count : (ℕ → Bool) → ℕ → ℕ
count p zero = 0
count p (suc n) = count p n + cond (p n) 1 0

-- the pairs p < q below n, in order
unfoldable pub pairs : ℕ → List (ℕ × ℕ)
pairs n = joined n (λ (p : ℕ). listed (n - suc p) (suc p) (λ (q : ℕ). (p, q)))

-- what a list makes of a state, from its first on
unfoldable pub folded : {X S : Type 0} → List X → (X → S → S) → S → S
folded [] f s = s
folded (x ∷ xs) f s = folded xs f (f x s)

-- ---- a loop: turn i takes the state by f i
-- the state after k turns
abbrev pub iter : {S : Type 0} → ℕ → (ℕ → S → S) → S → S
iter zero f s = s
iter (suc k) f s = f k (iter k f s)

-- after the turns lo to hi - 1
unfoldable pub iter_from : {S : Type 0} → ℕ → ℕ → (ℕ → S → S) → S → S
iter_from lo hi f s = iter (hi - lo) (λ t. f (lo + t)) s
