-- Tables of finite numbers are finite. Assumes nothing.
use mathlib.Core.Path.{◌≡◌, refl, ap, ◌∙◌}
use Prim.Native.Nat.{ℕ, zero, suc, ◌+◌, ◌≤◌, ◌<◌}
use native.Mathlib.Nat.{le_refl}
use native.Mathlib.Omega.{arith}
use mathlib.Core.Bool.{true}
use mathlib.Core.List.{List}
use lib.Ieee.{Float}
use Rattle.numbers.specs.Finite.{finite}
use Rattle.lists.specs.Lists.{listed, tab, joined, grid}
use Rattle.lists.specs.Floats.{all_finite}
use Rattle.lists.proofs.Floats.{finite_append}
use Rattle.lists.proofs.Tables.{joined_none, joined_more}
use Rattle.lists.proofs.Tests.{and_yes}

pub tab_finite : (m k : ℕ) (f : ℕ → Float) → ((j : ℕ) → k ≤ j → j < k + m → finite (f j) ≡ true) → all_finite (listed m k f) ≡ true
unfolding listed all_finite
tab_finite zero k f h = refl
tab_finite (suc m) k f h = and_yes (finite (f k)) (all_finite (listed m (suc k) f)) (h k (le_refl k) (omega arith)) (tab_finite m (suc k) f (λ j a b. h j (omega arith) (omega arith)))

pub joined_finite : (m : ℕ) (f : ℕ → List Float) → ((i : ℕ) → i < m → all_finite (f i) ≡ true) → all_finite (joined m f) ≡ true
unfolding all_finite
joined_finite zero f h = ap all_finite (joined_none f)
joined_finite (suc m) f h = ap all_finite (joined_more m f) ∙ finite_append (joined m f) (f m) (joined_finite m f (λ i l. h i (omega arith))) (h m (le_refl (suc m)))

pub grid_finite : (m n : ℕ) (f : ℕ → ℕ → Float) → ((i j : ℕ) → i < m → j < n → finite (f i j) ≡ true) → all_finite (grid m n f) ≡ true
grid_finite m n f h = joined_finite m (λ (i : ℕ). tab n (f i)) (λ i l. tab_finite n 0 (f i) (λ j a b. h i j l (omega arith)))
