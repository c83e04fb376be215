-- The square root of an f64: the number, and what it claims. Definitions only.
use Rattle.std.specs.Prelude.{◌≡◌, ℕ, zero, suc, ◌+◌, ◌-◌, ◌*◌, ◌/◌, ◌^◌, ◌<◌, true, false, cond, T, leb, Float}
use Rattle.std.specs.Float.{nan, inf, fin, binary64}
use Rattle.std.specs.Float.Ieee.{fits, lt, size, odd}
use Rattle.std.specs.Float.Ieee.Positive.{positive}
use Rattle.numbers.specs.Value.{units_in, plain}

-- ---- the claim, which `root_right` of proofs/Theorems.antt proves of `root_of`, and `root_only` of nothing else

-- √x is nearer to r than to any other f64 y, since the middle (r + y) / 2 lies on y's side of √x. Both orders are strict, so √x is never just between two f64.
-- In units √x is the root of units_in x * 2 ^ 1074. A y with a sign is further away than 0.
pub record NearestRoot (x r : Float) : Type 0 where
  pub held : T (fits binary64 r)
  pub above_zero : T (positive r)
  pub under : (y : Float) → T (fits binary64 y) → T (plain y) → T (lt y r) → (units_in r + units_in y) * (units_in r + units_in y) < 4 * (units_in x * 2 ^ 1074)
  pub over : (y : Float) → T (fits binary64 y) → T (plain y) → T (lt r y) → 4 * (units_in x * 2 ^ 1074) < (units_in r + units_in y) * (units_in r + units_in y)

-- r is the square root of x as IEEE 754 has it
abbrev pub SquareRoot : Float → Float → Type 0
SquareRoot nan r = r ≡ nan
SquareRoot (inf false) r = r ≡ inf false
SquareRoot (inf true) r = r ≡ nan
SquareRoot (fin s zero e) r = r ≡ fin s zero e
SquareRoot (fin true (suc m) e) r = r ≡ nan
SquareRoot (fin false (suc m) e) r = NearestRoot (fin false (suc m) e) r

-- ---- the number

-- The largest q with q * q ≤ n, for an n of at most 2 * k binary digits: that of n / 4 with one more digit.
unfoldable pub root_in : ℕ → ℕ → ℕ
root_in zero n = 0
root_in (suc k) n = let q = 2 * root_in k (n / 4) in cond (leb ((q + 1) * (q + 1)) n) (q + 1) q

unfoldable pub whole_root : ℕ → ℕ
unfolding root_in size
whole_root n = root_in (size n) n

-- The root of n units, which in units is that of N = n * 2 ^ 1074. An even number of digits of N, 2 * j, is left away,
-- so that the whole root of the rest has 54 digits,
-- one more than an f64 keeps. That last digit says which way to round.
unfoldable pub root_of_units : ℕ → Float
unfolding size whole_root odd
root_of_units n =
    let N = n * 2 ^ 1074 in
    let j = (size N - 107) / 2 in
    odd 53 false ((whole_root (N / 2 ^ (2 * j)) + 1) / 2) (j + 1) 1074

unfoldable pub root_of : Float → Float
unfolding root_of_units
root_of nan = nan
root_of (inf true) = nan
root_of (inf false) = inf false
root_of (fin s zero e) = fin s zero e
root_of (fin true (suc m) e) = nan
root_of (fin false (suc m) e) = root_of_units (units_in (fin false (suc m) e))
