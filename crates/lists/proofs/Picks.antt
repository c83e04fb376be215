-- Laws of `pick`, in the form that `search` applies. Assumes nothing.
use Prim.Native.Nat.{ℕ, ◌<◌, ◌≤◌}
use mathlib.Core.Path.{◌≡◌, sym, ◌∙◌}
use mathlib.Core.Bool.{Bool, true, false}
use lib.Dec.{ltb}
use borrow.Author.Tests.{lt-ltb, le-ltb}
use Rattle.lists.specs.Lists.{pick}

module _ {S : Type 0} (x y z : S) where
  -- by a test's own fact
  pub pick_true : (b : Bool) → b ≡ true → z ≡ x → z ≡ pick b x y
  unfolding pick
  pick_true b h e = rw h e

  pub pick_false : (b : Bool) → b ≡ false → z ≡ y → z ≡ pick b x y
  unfolding pick
  pick_false b h e = rw h e

  -- by a callee's answer r
  pub pick_yes : (b r : Bool) → r ≡ b → r ≡ true → z ≡ x → z ≡ pick b x y
  pick_yes b r d h e = pick_true b (sym d ∙ h) e

  pub pick_no : (b r : Bool) → r ≡ b → r ≡ false → z ≡ y → z ≡ pick b x y
  pick_no b r d h e = pick_false b (sym d ∙ h) e

  -- by a comparison of a callee's number i
  pub pick_lt : (a b i : ℕ) → i ≡ a → i < b → z ≡ x → z ≡ pick (ltb a b) x y
  pick_lt a b i d h e = pick_true (ltb a b) (lt-ltb a b (rw d at h)) e

  pub pick_ge : (a b i : ℕ) → i ≡ a → b ≤ i → z ≡ y → z ≡ pick (ltb a b) x y
  pick_ge a b i d h e = pick_false (ltb a b) (le-ltb a b (rw d at h)) e

pub ruleset picks = (pick_true, pick_false, pick_yes, pick_no, pick_lt, pick_ge)
