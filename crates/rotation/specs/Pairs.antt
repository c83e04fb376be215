-- How the loops over pairs of numbers go. Definitions for loops only.
use Rattle.std.specs.Prelude.{ℕ, ◌+◌, ◌*◌, List, set, Float}
use Rattle.numbers.specs.Arithmetic.{plus, minus, times}
use Rattle.lists.specs.Lists.{iter}
use Rattle.lists.specs.Floats.{at}

-- the numbers at a and b turned by the cosine c and the sine s
unfoldable pub turn_pair : ℕ → ℕ → Float → Float → List Float → List Float
turn_pair a b c s l = set (set l a (minus (times c (at l a)) (times s (at l b)))) b (plus (times s (at l a)) (times c (at l b)))

-- m pairs: the first numbers from a on, the second ones from b on, `step` apart
unfoldable pub turn_pairs : ℕ → ℕ → ℕ → ℕ → Float → Float → List Float → List Float
turn_pairs m step a b c s l = iter m (λ (r : ℕ). turn_pair (r * step + a) (r * step + b) c s) l
