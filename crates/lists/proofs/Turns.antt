-- Laws of `iter` and `iter_from`, in the form that `search` applies: what is known stands as premises. Assumes nothing.
use Prim.Native.Nat.{ℕ, zero, suc, ◌+◌, ◌-◌, ◌≤◌, zero-le}
use native.Mathlib.Numerals.{add-one}
use native.Mathlib.Nat.{sub_self, le_antisymm, le_of_suc-le-suc, eq-or-lt_of_le}
use native.Mathlib.Omega.{arith}
use mathlib.Core.Path.{◌≡◌, ap, ◌∙◌}
use mathlib.Core.Logic.{⊎_elim}
use borrow.Author.Rules.{rules}
use Rattle.lists.specs.Lists.{iter, iter_from}
use Rattle.lists.proofs.Cells.{cell_lt, row_fits, cell_fits, elt_fits, cell_scaled, row_end, row_end_now, row_end_fits, row_scaled}

module _ {S : Type 0} (f : ℕ → S → S) (s : S) where
  -- a turn more: t is the state before it and u after
  pub iter_more : (k : ℕ) (t u : S) → t ≡ iter k f s → u ≡ f k t → u ≡ iter (k + 1) f s
  iter_more k t u e d = rw (add-one, ← e) d

  -- the loop's end: k is between n and n
  pub iter_done : (k n : ℕ) (t : S) → t ≡ iter k f s → k ≤ n → n ≤ k → t ≡ iter n f s
  iter_done k n t e p q = rw (le_antisymm q p) e

  -- a state that no turn changes is the state at every later number of turns
  pub iter_fixed : (k n : ℕ) (t : S) → t ≡ iter k f s → k ≤ n → ((i : ℕ) → t ≡ f i t) → t ≡ iter n f s
  iter_fixed k zero t e h p = iter_done k zero t e h zero-le
  iter_fixed k (suc n) t e h p =
      ⊎_elim (λ d. iter_done k (suc n) t e h (omega arith)) (λ l. p n ∙ ap (f n) (iter_fixed k n t e (le_of_suc-le-suc l) p)) (eq-or-lt_of_le h)

  pub from_none : (lo : ℕ) → s ≡ iter_from lo lo f s
  unfolding iter_from
  from_none lo = rw sub_self

  pub from_more : (lo q : ℕ) (t u : S) → t ≡ iter_from lo q f s → u ≡ f q t → lo ≤ q → u ≡ iter_from lo (q + 1) f s
  unfolding iter_from
  from_more lo q t u e d h =
      let j : (q + 1) - lo ≡ suc (q - lo) = omega arith in
      let l : lo + (q - lo) ≡ q = omega arith in
      rw (j, l, ← e) d

  pub from_done : (lo k n : ℕ) (t : S) → t ≡ iter_from lo k f s → k ≤ n → n ≤ k → t ≡ iter_from lo n f s
  from_done lo k n t e p q = rw (le_antisymm q p) e

pub ruleset turns = (rules, cell_lt, row_fits, cell_fits, elt_fits, cell_scaled, row_end, row_end_now, row_end_fits, row_scaled, iter_more, iter_done, from_none, from_more, from_done)

-- for an early return; beside `turns` and never in it
pub ruleset stops = (iter_fixed)
