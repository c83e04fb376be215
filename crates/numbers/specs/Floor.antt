-- The largest whole number that is not above an f64: the number, and what it claims. Definitions only.
use Rattle.std.specs.Prelude.{◌≡◌, ℕ, zero, suc, ◌+◌, ◌*◌, ◌/◌, ◌%◌, ◌^◌, ◌≤◌, ◌<◌, Bool, true, false, cond, T, eqb, Float}
use Rattle.std.specs.Float.{nan, inf, fin, binary64}
use Rattle.std.specs.Float.Ieee.{fits, up, down, round}
use Rattle.std.specs.Float.Ieee.Exact.{HasValue}
use Rattle.numbers.specs.Value.{units_in}

-- ---- the claim, which `floor_right` of proofs/Theorems.antt proves of `floor_of`, and `floor_only` of nothing else

-- ±c ≤ ±u < ±c + 1, where c is a whole number and u counts units of 2 ^ -1074
abbrev pub Within : Bool → ℕ → ℕ → Type 0
Within false c u = (c * 2 ^ 1074 ≤ u) × (u < c * 2 ^ 1074 + 2 ^ 1074)
Within true c u = (u ≤ c * 2 ^ 1074) × (c * 2 ^ 1074 < u + 2 ^ 1074)

-- r is an f64 that is ±c, with r ≤ x < r + 1
pub record Below (s : Bool) (x r : Float) : Type 0 where
  pub held : T (fits binary64 r)
  pub c : ℕ
  pub whole : HasValue r s c 1
  pub within : Within s c (units_in x)

abbrev pub Floored : Float → Float → Type 0
Floored nan r = r ≡ nan
Floored (inf s) r = r ≡ inf s
Floored (fin s zero e) r = r ≡ fin s zero e
Floored (fin s (suc m) e) r = Below s (fin s (suc m) e) r

-- ---- the number

-- a / b as a whole number: toward zero, or away from it
abbrev pub cut : Bool → ℕ → ℕ → ℕ
cut false a b = a / b
cut true a b = cond (eqb (a % b) 0) (a / b) (a / b + 1)

unfoldable pub floor_of : Float → Float
unfolding round
floor_of nan = nan
floor_of (inf s) = inf s
floor_of (fin s m e) = round binary64 s (cut s (m * up e) (down e)) 1
