-- Equal but for the sign of a zero. Definitions only.
use Rattle.std.specs.Prelude.{◌≡◌, false, zero, suc, Float}
use Rattle.std.specs.Float.{nan, inf, fin}

-- a zero without its sign, and any other value as it is
abbrev pub unsigned : Float → Float
unsigned nan = nan
unsigned (inf s) = inf s
unsigned (fin s zero e) = fin false zero e
unsigned (fin s (suc m) e) = fin s (suc m) e

-- x is y, zero signs aside
abbrev pub Alike : Float → Float → Type 0
Alike x y = unsigned x ≡ unsigned y
