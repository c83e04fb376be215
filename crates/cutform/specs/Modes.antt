-- How small is small: the mode of a cut, a number with two names, and the three tests that take it (request W8). Nothing else of a cut does. Definitions only.
use Rattle.std.specs.Prelude.{ℕ, Bool, ◌||◌, List, eqb, Float}
use Rattle.std.specs.Float.Ieee.{lt, eq}
use Rattle.numbers.specs.Arithmetic.{plus, times, zero64, two64, tiny64}
use Rattle.lists.specs.Lists.{pick, pairs, folded}
use Rattle.lists.specs.Floats.{cell, sum_to}
use Rattle.cutform.specs.declared.Cutting.{Cutting}

abbrev pub absolute_mode : ℕ
absolute_mode = 0

abbrev pub scaled_mode : ℕ
scaled_mode = 1

-- refusal 7 of a mode: it is one of the two
unfoldable pub mode_ok : ℕ → Bool
mode_ok mode = eqb mode absolute_mode || eqb mode scaled_mode

-- a cut by its eps, in each of them
abbrev pub absolute_cut : Float → Cutting
absolute_cut eps = record { eps = eps; mode = absolute_mode }

abbrev pub scaled_cut : Float → Cutting
scaled_cut eps = record { eps = eps; mode = scaled_mode }

-- the sum over pairs of 2*g*g
unfoldable pub off_sum : ℕ → List Float → Float
off_sum n g = folded (pairs n) (λ (x : ℕ × ℕ) (s : Float). plus s (times (times two64 (cell n g x.0 x.1)) (cell n g x.0 x.1))) zero64

-- the sum of squared diagonal entries, ascending, from +0
unfoldable pub diagonal_sum : ℕ → List Float → Float
diagonal_sum n g = sum_to n (λ (i : ℕ). times (cell n g i i) (cell n g i i))

-- x lies below 1e-30 times y, or z is zero
unfoldable pub small_beside : Float → Float → Float → Bool
small_beside x y z = lt x (times tiny64 y) || eq z zero64

-- sweeps stop where the sum is below 1e-30; scaled, where it is below 1e-30 times the sum of squared diagonal entries, or is itself zero
unfoldable pub settled : ℕ → ℕ → List Float → Bool
settled mode n g = pick (eqb mode scaled_mode) (small_beside (off_sum n g) (diagonal_sum n g) (off_sum n g)) (lt (off_sum n g) tiny64)

-- a pair is skipped where g*g is below 1e-30; scaled, where it is below 1e-30 times the product of its two diagonal entries, or g is zero
unfoldable pub skipped : ℕ → ℕ → List Float → ℕ → ℕ → Bool
skipped mode n g p q =
    let off = cell n g p q in
    pick (eqb mode scaled_mode) (small_beside (times off off) (times (cell n g p p) (cell n g q q)) off) (lt (times off off) tiny64)

-- a column is divided by its value where that is above 1e-30; scaled, where it is above zero
unfoldable pub divided : ℕ → Float → Bool
divided mode value = lt (pick (eqb mode scaled_mode) zero64 tiny64) value
