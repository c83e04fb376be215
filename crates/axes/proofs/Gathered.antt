-- What `gather` answers holds the records of the list, and the list that it makes after k turns. Assumes nothing.
use mathlib.Core.Path.{◌≡◌, ap, ◌∙◌}
use Prim.Native.Nat.{ℕ, ◌+◌, ◌<◌, ◌≤◌}
use native.Mathlib.Nat.{le_antisymm}
use native.Mathlib.Numerals.{add-one}
use native.Mathlib.Omega.{arith}
use mathlib.Core.List.{List}
use lib.ListN.{length, set, take}
use lib.Seq.{ext_get_or, get_or-take, length-take-le}
use Rattle.lists.specs.Lists.{iter, listed}
use Rattle.lists.proofs.Tables.{length_tab, get_or_tab_lem}
use Rattle.shape.specs.Limits.{most_axes}
use Rattle.stepform.specs.declared.Axis.{Axis}
use Rattle.stepform.specs.Axes.{blank, blanks, axis_at, gathered}

pub gathered_length : (xs : List Axis) → length (gathered xs) ≡ most_axes
unfolding gathered
gathered_length xs = length_tab most_axes (axis_at xs)

pub gathered_at : (xs : List Axis) (k : ℕ) → k < most_axes → axis_at (gathered xs) k ≡ axis_at xs k
unfolding gathered
gathered_at xs k h = get_or_tab_lem most_axes (axis_at xs) k blank h

-- a list of no more records than a chain can have axes stands at its front
pub gathered_front : (xs : List Axis) → length xs ≤ most_axes → take (length xs) (gathered xs) ≡ xs
gathered_front xs h =
    let l = length-take-le (length xs) (gathered xs) (omega (arith, gathered_length xs)) in
    ext_get_or blank (take (length xs) (gathered xs)) xs l
    (λ k lt. get_or-take (length xs) (gathered xs) k blank (omega arith) ∙ gathered_at xs k (omega arith))

-- ---- the list after k turns
abbrev pub filled : List Axis → ℕ → List Axis
filled ys k = iter k (λ (j : ℕ) (l : List Axis). set l j (axis_at ys j)) blanks

pub filled_more : (ys : List Axis) (k : ℕ) → filled ys (k + 1) ≡ set (filled ys k) k (axis_at ys k)
filled_more ys k = rw add-one

pub filled_all : (ys : List Axis) (k : ℕ) → k ≤ most_axes → most_axes ≤ k → filled ys k ≡ gathered ys
unfolding gathered listed
filled_all ys k a b = ap (filled ys) (le_antisymm a b)
