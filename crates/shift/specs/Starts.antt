-- A band as it is worked out: over a block written on, so that no index wraps. Definitions for the code only.
use Rattle.std.specs.Prelude.{ℕ, ◌+◌, ◌*◌, ◌<◌, ◌≤◌, List, ℤ, pos, ◌+ℤ◌, ◌-ℤ◌, get_or, Float}
use Rattle.numbers.specs.Arithmetic.{times, half64, quarter64}
use Rattle.numbers.specs.Residues.{wrap}
use Rattle.lists.specs.Lists.{tab}
use Rattle.lists.specs.Floats.{at, sum_on}

abbrev pub nat_at : List ℕ → ℕ → ℕ
nat_at l m = get_or l m 0

-- where the rows at the offsets s0 - 1 to s0 + 2 start among rows of rr that come again after p
unfoldable pub starts_of : ℕ → ℕ → ℤ → List ℕ
starts_of p rr s0 = tab 4 (λ (m : ℕ). wrap p (s0 -ℤ pos 1 +ℤ pos m) * rr)

-- h numbers from each of the four starts on lie among l
abbrev pub StartRoom : List ℕ → ℕ → ℕ → Type 0
StartRoom starts h l = (m : ℕ) → m < 4 → nat_at starts m + h ≤ l

-- acc, then the first k terms of a band at number j of t
unfoldable pub band_in : Float → List Float → ℕ → List Float → List ℕ → ℕ → Float
band_in acc t j weights starts k = sum_on acc k (λ (m : ℕ). times (times quarter64 (at weights m)) (at t (nat_at starts m + j)))

-- number j of a block, shifted; t is the block, written on
unfoldable pub entry_in : List Float → List Float → List ℕ → List Float → List ℕ → ℕ → Float
entry_in t forward ahead backward behind j = band_in (band_in (times half64 (at t j)) t j forward ahead 4) t j backward behind 4
