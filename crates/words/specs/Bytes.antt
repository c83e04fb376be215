-- Whole numbers and f64s in bytes, little-endian, both ways. A byte is a number below 256. Definitions only.
use Rattle.std.specs.Prelude.{ℕ, zero, suc, ◌+◌, ◌*◌, ◌/◌, ◌%◌, List, [], ◌∷◌, length, get_or, Float}
use Rattle.std.specs.Float.{binary64}
use Rattle.std.specs.Float.Ieee.{to_bits, of_bits}
use Rattle.lists.specs.Lists.{tab, joined}
use Rattle.lists.specs.Floats.{at}

-- the w bytes of x, lowest first
unfoldable pub bytes_of : ℕ → ℕ → List ℕ
bytes_of zero x = []
bytes_of (suc w) x = x % 256 ∷ bytes_of w (x / 256)

-- the number in the w bytes from p on, lowest first; a byte beyond the end counts as 0
unfoldable pub number_at : ℕ → List ℕ → ℕ → ℕ
number_at zero bytes p = 0
number_at (suc w) bytes p = get_or bytes p 0 + 256 * number_at w bytes (suc p)

abbrev pub u16 : ℕ → List ℕ
u16 x = bytes_of 2 x

abbrev pub u32 : ℕ → List ℕ
u32 x = bytes_of 4 x

-- the bits are kept: -0 is not +0
abbrev pub f64 : Float → List ℕ
f64 x = bytes_of 8 (to_bits binary64 x)

abbrev pub u16_at : List ℕ → ℕ → ℕ
u16_at bytes p = number_at 2 bytes p

abbrev pub u32_at : List ℕ → ℕ → ℕ
u32_at bytes p = number_at 4 bytes p

abbrev pub f64_at : List ℕ → ℕ → Float
f64_at bytes p = of_bits binary64 (number_at 8 bytes p)

-- m numbers from byte p on
unfoldable pub numbers_from : List ℕ → ℕ → ℕ → List Float
numbers_from bytes p m = tab m (λ (i : ℕ). f64_at bytes (p + 8 * i))

-- the bytes of each number, in order, no gaps
unfoldable pub bytes_of_all : List Float → List ℕ
bytes_of_all l = joined (length l) (λ (i : ℕ). f64 (at l i))
