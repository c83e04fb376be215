-- The checks of a rounding by what code finds. Assumes nothing.
use mathlib.Core.Path.{◌≡◌, sym, ap, ◌∙◌}
use Prim.Native.Nat.{ℕ, ◌≤◌}
use native.Mathlib.Nat.{le_of_eq}
use native.Mathlib.Omega.{arith}
use Rattle.answers.specs.declared.Refusal.{Refusal}
use Rattle.answers.specs.declared.Refusal.TheVariants.{Length}
use Rattle.std.specs.Prelude.{Ok, Err}
use Rattle.answers.specs.Outcome.{Answer, Check, ◌then◌}
use Rattle.lists.proofs.Asked.{tested, length_wrong, length_right, lengths_say, place_wrong, places_right}
use Rattle.shape.specs.declared.Shape.{Shape}
use Rattle.shape.specs.Limits.{most_entries, scratch_for}
use Rattle.shape.specs.Shapes.{entries_of}
use Rattle.shape.specs.Sizes.{SizesWithin}
use Rattle.shape.proofs.Shaped.{fits_sizes, fits_points}
use Rattle.shape.proofs.Offsets.{entries_most}
use Rattle.cutform.specs.Asked.{lengths_ok}

-- ---- checks in a row by `?`: one law for a check that refuses, one for one that passes
module _ {A : Type 0} (c : Check) (o : Answer A) where
  pub refuses : (r : Refusal) → Err r ≡ c → Err r ≡ (c then o)
  refuses r h = ap (λ (x : Check). x then o) h

  pub passes : (w : Answer A) → Ok tt ≡ c → w ≡ o → w ≡ (c then o)
  passes w h g = g ∙ ap (λ (x : Check). x then o) h

-- m is the chain's N as code counted it, n its scratch
module _ (s : Shape) (m : ℕ) (e : m ≡ entries_of s) where
  pub entries_few : SizesWithin s → m ≤ most_entries
  entries_few w = omega (arith, entries_most s w)

  pub scratch_is : (n : ℕ) → n ≡ scratch_for m → n ≡ scratch_for (entries_of s)
  scratch_is n f = f ∙ ap scratch_for e

pub ruleset scratch_laws = (entries_few, scratch_is)

-- lengths that passed
pub chain_long : (s : Shape) (i chain j scratch : ℕ) → Ok tt ≡ lengths_ok s i chain j scratch → entries_of s ≤ chain
unfolding lengths_ok
chain_long s i chain j scratch e =
    le_of_eq (sym (lengths_say chain (entries_of s) scratch (scratch_for (entries_of s)) (Length i) (Length j) (sym e)).0)

pub ruleset in_a_row = (refuses, passes, tested, length_wrong, length_right, place_wrong, places_right, fits_sizes, fits_points, chain_long)
