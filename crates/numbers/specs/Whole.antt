-- The floor of an f64 as an integer, and what the f64 has above it. Definitions only.
use Rattle.std.specs.Prelude.{ℕ, ◌*◌, Bool, true, false, ◌&&◌, cond, ℤ, pos, neg_ℤ, Float}
use Rattle.std.specs.Float.{nan, inf, fin, binary64}
use Rattle.std.specs.Float.Ieee.{up, down, neg, le, of_int}
use Rattle.numbers.specs.Arithmetic.{minus, farthest64}
use Rattle.numbers.specs.Floor.{cut}

-- c, or -c
abbrev pub signed : Bool → ℕ → ℤ
signed false c = pos c
signed true c = neg_ℤ (pos c)

-- The largest integer that is not above x. What isn't finite has none, and is given 0: it is never asked for, since refusal 8 comes before.
unfoldable pub whole_of : Float → ℤ
whole_of nan = pos 0
whole_of (inf s) = pos 0
whole_of (fin s m e) = signed s (cut s (m * up e) (down e))

-- x less its floor, in f64. The floor is the integer's f64, so that -0, whose floor is the integer 0, has the fraction -0.
unfoldable pub fraction_of : Float → Float
fraction_of x = minus x (of_int binary64 (whole_of x))

-- -2 ^ 31 ≤ x ≤ 2 ^ 31, which no NaN meets: refusal 8 is given where this is false
abbrev pub in_reach : Float → Bool
in_reach x = le (neg farthest64) x && le x farthest64

-- the floor of an x within reach, and 0 for any other
abbrev pub whole_in_reach : Float → ℤ
whole_in_reach x = cond (in_reach x) (whole_of x) (pos 0)
