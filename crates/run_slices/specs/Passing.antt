-- What passes between a run's slices and the work. Definitions for code only.
use Rattle.std.specs.Prelude.{◌≡◌, ℕ, zero, suc, ◌-◌, List, ◌++◌, length, take, drop, Float}
use Rattle.lists.specs.Slots.{slot}

-- in the slot left of zone z l' holds what l does
abbrev pub Beside : (ℕ → ℕ) → ℕ → List Float → List Float → Type 0
Beside size zero l l' = Unit {0}
Beside size (suc k) l l' = slot size k l' ≡ slot size k l

-- l with what w holds from place `at` on
abbrev pub over_from : ℕ → List Float → List Float → List Float
over_from at l w = take at l ++ drop at (take (length l) w)

-- l with what w holds from place `at` up to `end`
abbrev pub over_between : ℕ → ℕ → List Float → List Float → List Float
over_between at end l w = take at l ++ (take (end - at) (drop at w) ++ drop end l)
