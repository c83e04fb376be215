-- Axis records of which the first n were lent.
use mathlib.Core.Path.{◌≡◌, sym, ap, ◌∙◌}
use Prim.Native.Nat.{ℕ, ◌≤◌, ◌<◌}
use native.Mathlib.Omega.{arith}
use mathlib.Core.List.{List, map}
use lib.ListN.{length, get_or, get_or-map, get_or-eq_default}
use Rattle.lists.proofs.Tables.{length_tab, get_or_tab_lem, get_d_any}
use Rattle.lists.specs.Lists.{tab}
use Rattle.lists.proofs.Over.{tab_over, tabs_done}
use Rattle.shape.specs.Limits.{most_axes}
use Rattle.stepform.specs.Axes.{blank, axis_at, gathered}
use Rattle.stepform.specs.declared.Axis.{Axis}
use Rattle.numbers.specs.Arithmetic.{zero64}
use Rattle.records.specs.declared.given.CAxis.{CAxis}
use Rattle.records.specs.Given.{axis_in, lent_of}

abbrev cblank : CAxis
cblank = record { a = zero64; b = zero64; xmin = zero64; xmax = zero64; boundary = 0 }

pub lent_at : (n : ℕ) (xs : List CAxis) (k : ℕ) (o : CAxis) (y : Axis) → k < n → k < length xs → y ≡ axis_in (get_or xs k o) → y ≡ axis_at (lent_of n xs) k
lent_at n xs k o y l m e =
    e ∙ ap axis_in (get_d_any xs k o cblank m) ∙ sym (get_or-map axis_in xs k cblank) ∙ sym (get_or_tab_lem n (axis_at (map axis_in xs)) k blank l)

pub lent_past : (n : ℕ) (xs : List CAxis) (k : ℕ) → n ≤ k → blank ≡ axis_at (lent_of n xs) k
lent_past n xs k l = sym (get_or-eq_default (lent_of n xs) blank (omega (arith, length_tab n (axis_at (map axis_in xs)))))

pub lent_done : (n : ℕ) (xs : List CAxis) (d u : List Axis) (i : ℕ) → u ≡ tab_over (axis_at (lent_of n xs)) d i → length d ≡ most_axes → most_axes ≤ i → u ≡ gathered (lent_of n xs)
unfolding gathered
lent_done n xs d u i e l m = tabs_done (axis_at (lent_of n xs)) d i u e (omega arith) ∙ ap (λ (z : ℕ). tab z (axis_at (lent_of n xs))) l
