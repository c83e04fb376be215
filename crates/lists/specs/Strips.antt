-- A strip of sums that one loop keeps, and numbers stored one after another. Definitions for loops only.
use Rattle.std.specs.Prelude.{ℕ, ◌+◌, List, set, Float}
use Rattle.numbers.specs.Arithmetic.{plus}
use Rattle.lists.specs.Lists.{iter}
use Rattle.lists.specs.Floats.{at}

-- the widest strip of columns that one loop sums
abbrev pub strip_width : ℕ
strip_width = 8

-- f 0, f 1, .., f (h - 1) added to the first h of s, each to its own
unfoldable pub added_in : ℕ → (ℕ → Float) → List Float → List Float
added_in h f s = iter h (λ (t : ℕ) (l : List Float). set l t (plus (at l t) (f t))) s

-- f 0, f 1, .., f (h - 1) stored from p on
unfoldable pub stored_from : ℕ → ℕ → (ℕ → Float) → List Float → List Float
stored_from p h f o = iter h (λ (t : ℕ) (l : List Float). set l (p + t) (f t)) o
