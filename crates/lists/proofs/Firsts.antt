-- Laws of `first`, turn by turn. Assumes nothing.
use Prim.Native.Nat.{ℕ, suc, ◌+◌, ◌-◌, ◌<◌, ◌≤◌}
use native.Mathlib.Nat.{sub-zero}
use native.Mathlib.Numerals.{add-one}
use native.Mathlib.Omega.{arith}
use mathlib.Core.Path.{◌≡◌, ◌∙◌}
use mathlib.Core.Bool.{Bool, true, false}
use Rattle.lists.specs.Lists.{first_from, first}

module _ (p : ℕ → Bool) (n : ℕ) where
  -- the loop stands at i: nothing below i was found
  abbrev pub Clear : ℕ → Type 0
  Clear i = first p n ≡ first_from p i (n - i)

  pub clear_none : Clear 0
  unfolding first
  clear_none = rw sub-zero

  module _ (i : ℕ) (r : Bool) (e : Clear i) (l : i < n) (d : r ≡ p i) where
    step : n - i ≡ suc (n - (i + 1))
    step = omega arith

    pub clear_more : r ≡ false → Clear (i + 1)
    clear_more h = e ∙ rw (step, ← d, h, add-one)

    pub first_here : r ≡ true → i ≡ first p n
    first_here h = rw (e, step, ← d, h)

  pub first_done : (i : ℕ) → Clear i → i ≤ n → n ≤ i → i ≡ first p n
  first_done i e h l =
      let z : n - i ≡ 0 = omega arith in
      rw (e, z)
