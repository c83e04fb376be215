-- Passes over two columns worked out beside the definitions, by computation: a pair whose quotient is 1e-14, and the numbers next to it. Assumes nothing.
use Rattle.std.specs.Prelude.{Ok, Err}
use mathlib.Core.Path.{◌≡◌, refl}
use mathlib.Core.List.{List, [], ◌∷◌, map}
use Prim.Native.Nat.{ℕ}
use lib.Ieee.{Float, binary64, add, sub, mul, div, le, of_bits, to_bits}
use Rattle.numbers.specs.Magnitude.{magnitude_of}
use Rattle.numbers.specs.Root.{root_in, whole_root, root_of_units, root_of}
use Rattle.answers.specs.Outcome.{Made}
use Rattle.lists.specs.Lists.{pick, listed, flat, first, pairs}
use Rattle.lists.specs.Walks.{along}
use Rattle.lists.specs.Floats.{sum_on, sum_to, all_finite, first_not_finite, stored}
use Rattle.cutform.specs.Rotation.{tangent_of, slope_of, cosine_of, turned_at, eye}
use Rattle.pairform.specs.Columns.{turn_stored, dot, skipped}
use Rattle.pairform.specs.Passes.{turned_svd, rotate, pass, Passes, passes_from, orthogonalized, start}

-- what the passes came to, each float by its bits
pub record Seen : Type 0 where
  pub count : ℕ
  pub columns : List ℕ
  pub basis : List ℕ

abbrev bits : List Float → List ℕ
bits l = map (to_bits binary64) l

abbrev of : List ℕ → List Float
of l = map (of_bits binary64) l

abbrev seen : Made Passes → Seen
seen (Ok w) = record { count = w.count; columns = bits w.svd.columns; basis = bits w.svd.basis }
seen (Err i) = record { count = 0; columns = []; basis = [] }

abbrev one : ℕ
one = 0x3ff0_0000_0000_0000

-- the slab (1, x; 0, 1), whose two columns have the lengths 1 and the product x
abbrev leaning : ℕ → Seen
leaning x = seen (orthogonalized 2 2 (start 2 2 (of (one ∷ x ∷ 0 ∷ one ∷ []))))

-- one pass, which turns nothing
abbrev quiet : ℕ → Seen
quiet x = record { count = 1; columns = one ∷ 0 ∷ x ∷ one ∷ []; basis = one ∷ 0 ∷ 0 ∷ one ∷ [] }

-- one pass that turns the pair by half a right angle, and a quiet one
abbrev turned_once : List ℕ → Seen
turned_once l = record { count = 2; columns = l; basis = 0x3fe6a09e667f3bcc ∷ 0xbfe6a09e667f3bcc ∷ 0x3fe6a09e667f3bcc ∷ 0x3fe6a09e667f3bcc ∷ [] }

pub record Examples : Type 0 where
  -- 1e-14 is not above the tolerance: the pair is skipped, and so is the number before it; the next number turns it
  pub skips_below : leaning 0x3d06849b86a12b9a ≡ quiet 0x3d06849b86a12b9a
  pub skips_at : leaning 0x3d06849b86a12b9b ≡ quiet 0x3d06849b86a12b9b
  pub turns_above : leaning 0x3d06849b86a12b9c ≡ turned_once (0x3fe6a09e667f3b8c ∷ 0xbfe6a09e667f3bcc ∷ 0x3fe6a09e667f3c0c ∷ 0x3fe6a09e667f3bcc ∷ [])
  -- the same of -1e-14, and of the number below it
  pub skips_at_minus : leaning 0xbd06849b86a12b9b ≡ quiet 0xbd06849b86a12b9b
  pub turns_under_minus : leaning 0xbd06849b86a12b9c ≡ turned_once (0x3fe6a09e667f3c0c ∷ 0xbfe6a09e667f3bcc ∷ 0x3fe6a09e667f3b8c ∷ 0x3fe6a09e667f3bcc ∷ [])
  -- a product of columns starts at +0, and +0 + -0 is +0
  pub product_sign : to_bits binary64 (dot 1 (of (one ∷ 0x8000000000000000 ∷ [])) 0 1) ≡ 0

pub examples : Examples
unfolding add sub mul div le of_bits to_bits magnitude_of root_in whole_root root_of_units root_of pick listed flat first pairs along sum_on sum_to all_finite
    first_not_finite stored tangent_of slope_of cosine_of turned_at eye turn_stored dot skipped turned_svd rotate pass passes_from orthogonalized start
examples = record { skips_below = refl; skips_at = refl; turns_above = refl; skips_at_minus = refl; turns_under_minus = refl; product_sign = refl }
