-- What the contracts of the functions that `root` is made of cite. Definitions only.
use Rattle.std.specs.Prelude.{◌≡◌, Bool, ℕ, zero, suc, ◌+◌, ◌*◌, ◌/◌, ◌%◌, ◌^◌, ◌≤◌, ◌<◌}
use Rattle.numbers.specs.Floor.{Within}

-- how many units of 2 ^ -1074 a pattern with no sign stands for, by its exponent's field and its digits
abbrev pub units_at : ℕ → ℕ → ℕ
units_at zero t = t
units_at (suc x) t = (2 ^ 52 + t) * 2 ^ x

abbrev pub units_of : ℕ → ℕ
units_of b = units_at (b / 2 ^ 52) (b % 2 ^ 52)

-- a pattern's units as m * 2 ^ (e - 52), with an m of 53 digits
pub record Parted (b m e : ℕ) : Type 0 where
  pub low : 2 ^ 52 ≤ m
  pub high : m < 2 ^ 53
  pub value : units_of b * 2 ^ 52 ≡ m * 2 ^ e
  pub small : e ≤ 2097

-- q is the whole root of n, and rem what its square leaves
pub record Leaves (n q rem : ℕ) : Type 0 where
  pub is : q * q + rem ≡ n
  pub small : rem ≤ 2 * q

-- what `refine` wants: 2 ^ k is at most twice the root
pub record Refinable (q rem high low k : ℕ) : Type 0 where
  pub small : rem ≤ 2 * q
  pub digit_1 : high < 2 ^ k
  pub digit_2 : low < 2 ^ k
  pub wide : 2 ^ k ≤ 2 * q
  pub root : q < 2 ^ 27
  pub base : k ≤ 27

-- r is half of the whole root q of m * 2 ^ 54, rounded
pub record Halved (m r : ℕ) : Type 0 where
  pub q : ℕ
  pub under : q * q ≤ m * 2 ^ 54
  pub over : m * 2 ^ 54 < (q + 1) * (q + 1)
  pub small : q < 2 ^ 54
  pub half : r ≡ (q + 1) / 2

-- the pattern r stands for a whole number c, which is what the pattern b stands for, cut toward zero, or away from it where s is true
pub record CutTo (s : Bool) (b r : ℕ) : Type 0 where
  pub small : r < 0x7ff0_0000_0000_0000
  pub c : ℕ
  pub whole : units_of r ≡ c * 2 ^ 1074
  pub within : Within s c (units_of b)
