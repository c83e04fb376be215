-- Singular values, their order, and how many are kept (000: `jacobi_gram_ev`, `jacobi_svd_trunc`). Definitions only.
use Rattle.std.specs.Prelude.{ℕ, ◌+◌, max, List, eqb, get_or, Float}
use Rattle.std.specs.Float.Ieee.{lt, eq}
use Rattle.numbers.specs.Arithmetic.{times, zero64}
use Rattle.numbers.specs.Root.{root_of}
use Rattle.lists.specs.Lists.{pick, tab, first, count}
use Rattle.lists.specs.Floats.{at, cell}

-- the root of a diagonal entry, +0 where it isn't above zero
unfoldable pub singular_of : Float → Float
singular_of x = pick (lt zero64 x) (root_of x) zero64

unfoldable pub singulars : ℕ → List Float → List Float
singulars n g = tab n (λ (i : ℕ). singular_of (cell n g i i))

-- where value i of n stands once they are sorted falling, equal ones by lower index: after the larger ones, and the equal ones before it
unfoldable pub place_in : ℕ → List Float → ℕ → ℕ
place_in n sv i = count (λ (j : ℕ). lt (at sv i) (at sv j)) n + count (λ (j : ℕ). eq (at sv j) (at sv i)) i

-- the index of the value that stands at place r
unfoldable pub index_at : ℕ → List Float → ℕ → ℕ
index_at n sv r = first (λ (i : ℕ). eqb (place_in n sv i) r) n

unfoldable pub order : ℕ → List Float → List ℕ
order n sv = tab n (index_at n sv)

unfoldable pub sorted : ℕ → List Float → List Float
sorted n sv = tab n (λ (r : ℕ). at sv (index_at n sv r))

-- eps*largest, or 0 if the largest is 0
unfoldable pub threshold_of : Float → Float → Float
threshold_of eps largest = pick (lt zero64 largest) (times eps largest) zero64

-- how many of the n sorted values are strictly above the threshold, at least 1
unfoldable pub kept_rank : Float → ℕ → List Float → ℕ
kept_rank eps n ss = max 1 (count (λ (r : ℕ). lt (threshold_of eps (at ss 0)) (at ss r)) n)

-- the largest of the sorted values that is not kept where r of them are: that at place r, +0 if there is none
unfoldable pub dropped_from : ℕ → List Float → Float
dropped_from r ss = get_or ss r zero64
