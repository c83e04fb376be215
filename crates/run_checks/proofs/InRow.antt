-- The checks of a replacement in a row, by what code finds on its way. Assumes nothing.
use mathlib.Core.Path.{◌≡◌, refl, sym, ap, ◌∙◌}
use Prim.Native.Nat.{ℕ, ◌-◌, ◌<◌}
use mathlib.Core.Bool.{Bool, true}
use mathlib.Core.List.{List}
use lib.Dec.{ltb}
use lib.ListN.{length, set}
use lib.Ieee.{Float}
use Rattle.answers.specs.declared.Refusal.{Refusal}
use Rattle.answers.specs.declared.Refusal.TheVariants.{Zone, Length, Reach}
use Rattle.std.specs.Prelude.{Ok, Err}
use Rattle.answers.specs.Outcome.{Check, ◌then◌, demand, demand_each}
use Rattle.answers.proofs.Checks.{demand_is, then_is}
use Rattle.lists.specs.Floats.{all_finite}
use Rattle.lists.proofs.Tests.{ltb_is}
use Rattle.shape.specs.declared.Shape.{Shape}
use Rattle.shape.specs.Limits.{scratch_for}
use Rattle.shape.specs.Shapes.{shape_ok, entries_of, points_of, core_size, point_size}
use Rattle.stepform.specs.Axes.{axis_finite, axis_ok}
use Rattle.stepform.specs.declared.Axis.{Axis}
use Rattle.stepform.specs.Zones.{Rules, rules}
use Rattle.stepform.specs.Call.{axis_reaches}
use Rattle.shape.proofs.Shaped.{shaped}
use Rattle.shape.specs.Sizes.{PointsWithin, SizesWithin}
use Rattle.product.proofs.Checks.{refuses, passes}
use Rattle.run_checks.proofs.Guards.{size_stops, size_passes}
use Rattle.runform.specs.Slices.{slice_count, behind_part}
use Rattle.runform.specs.Kept.{Kept, lengths_of}
use Rattle.runform.specs.Checks.{rank_ok, slices_lent, scratch_lent}
use Rattle.runform.specs.Requests.{Request, new_core, new_axis, new_weights, zone_of, part_fits, found_ok, found_numbers, numbers_ok, replace_ok}

then_done : (c : Check) → c then Ok tt ≡ c
then_done (Ok t1) = refl
then_done (Err r) = refl

module _ (R : Rules) (room : Check) (k : Kept) (q : Request) where
  abbrev s : Shape
  s = k.inputs.shape

  abbrev rest : Check
  rest = demand (part_fits s q) (Length slice_count) then room then numbers_ok R k q

  found_first : replace_ok R room k q ≡ found_ok k (zone_of q) then rest
  unfolding replace_ok
  found_first = refl

  -- what was found passes
  pub found_stops : (r : Refusal) → Err r ≡ found_ok k (zone_of q) → Err r ≡ replace_ok R room k q
  found_stops r h = refuses (found_ok k (zone_of q)) rest r h ∙ (sym found_first)

  pub found_goes : Ok tt ≡ found_ok k (zone_of q) → (w : Check) → w ≡ rest → w ≡ replace_ok R room k q
  found_goes h w g = passes (found_ok k (zone_of q)) rest w h g ∙ (sym found_first)

-- what it says that it passed
pub found_says : (k : Kept) (z : ℕ) → Ok tt ≡ found_ok k z
    → (z < k.inputs.shape.d) × (shape_ok k.inputs.shape (rank_ok k.inputs.shape k.stepped.bonds) ≡ Ok tt)
    × (slices_lent k.inputs.shape (lengths_of k) ≡ Ok tt)
unfolding found_ok
found_says k z h =
    let s = k.inputs.shape in
    let L = slices_lent s (lengths_of k) in
    let A = then_is (shape_ok s (rank_ok s k.stepped.bonds)) (demand (ltb z s.d) Zone then L) tt (sym h) in
    let B = then_is (demand (ltb z s.d) Zone) L tt A.1 in
    (ltb_is z s.d (demand_is (ltb z s.d) Zone B.0), A.0, B.1)

module _ (k : Kept) (z : ℕ) (h : Ok tt ≡ found_ok k z) where
  pub found_sizes : SizesWithin k.inputs.shape
  found_sizes = (shaped k.inputs.shape (rank_ok k.inputs.shape k.stepped.bonds) (found_says k z h).1).sizes

  pub found_points : PointsWithin k.inputs.shape
  found_points = found_sizes.axes

  pub found_zone : z < k.inputs.shape.d
  found_zone = (found_says k z h).0

  pub found_shaped : shape_ok k.inputs.shape (rank_ok k.inputs.shape k.stepped.bonds) ≡ Ok tt
  found_shaped = (found_says k z h).1

  pub found_lent : slices_lent k.inputs.shape (lengths_of k) ≡ Ok tt
  found_lent = (found_says k z h).2

-- ---- new weights
module _ (R : Rules) (k : Kept) (z : ℕ) (ws : List Float) where
  weights_numbers : numbers_ok R k (new_weights z ws) ≡ found_numbers k z (all_finite ws) true
  unfolding numbers_ok
  weights_numbers = then_done (found_numbers k z (all_finite ws) true)

  module _ (n : ℕ) (h : Ok tt ≡ found_ok k z) where
    abbrev Asks : Check
    Asks = replace_ok R (scratch_lent k.inputs.shape behind_part n) k (new_weights z ws)

    abbrev later : Check
    later = scratch_lent k.inputs.shape behind_part n then numbers_ok R k (new_weights z ws)

    pub weights_wrong : (length ws ≡ points_of k.inputs.shape z → ⊥) → Err (Length slice_count) ≡ Asks
    unfolding point_size
    weights_wrong f =
        found_goes R (scratch_lent k.inputs.shape behind_part n) k (new_weights z ws) h (Err (Length slice_count))
        (size_stops later (Length slice_count) (length ws) (point_size k.inputs.shape z) (points_of k.inputs.shape z) refl f)

    module _ (f : length ws ≡ points_of k.inputs.shape z) (m : ℕ) (g : m ≡ scratch_for (entries_of k.inputs.shape)) where
      go : (w : Check) → w ≡ later → w ≡ Asks
      unfolding point_size
      go w o = found_goes R (scratch_lent k.inputs.shape behind_part n) k (new_weights z ws) h w (size_passes later (Length slice_count) (length ws) (point_size k.inputs.shape z) (points_of k.inputs.shape z) refl f w o)

      pub weights_room : (n ≡ m → ⊥) → Err (Length behind_part) ≡ Asks
      unfolding scratch_lent
      weights_room o = go (Err (Length behind_part)) (size_stops (numbers_ok R k (new_weights z ws)) (Length behind_part) n (scratch_for (entries_of k.inputs.shape)) m g o)

      pub weights_fit : n ≡ m → (part : Bool) → part ≡ all_finite ws → (w : Check) → w ≡ found_numbers k z part true → w ≡ Asks
      unfolding scratch_lent
      weights_fit o part p w y =
          go w (size_passes (numbers_ok R k (new_weights z ws)) (Length behind_part) n (scratch_for (entries_of k.inputs.shape)) m g o w
          (y ∙ ap (λ (b : Bool). (found_numbers k z b true)) p ∙ (sym weights_numbers)))

-- ---- a new core
module _ (k : Kept) (z : ℕ) (xs : List Float) where
  abbrev shifts : Check
  shifts = demand_each Reach (axis_reaches k.inputs.set k.inputs.shape k.inputs.axes) (k.inputs.shape.d - z) z

  module _ (n : ℕ) (h : Ok tt ≡ found_ok k z) (l : ℕ) (sz : l ≡ core_size k.inputs.shape z) where
    abbrev CoreAsks : Check
    CoreAsks = replace_ok rules (scratch_lent k.inputs.shape behind_part n) k (new_core z xs)

    abbrev behind : Check
    behind = scratch_lent k.inputs.shape behind_part n then numbers_ok rules k (new_core z xs)

    pub core_wrong : (length xs ≡ l → ⊥) → Err (Length slice_count) ≡ CoreAsks
    core_wrong f = found_goes rules (scratch_lent k.inputs.shape behind_part n) k (new_core z xs) h (Err (Length slice_count)) (size_stops behind (Length slice_count) (length xs) (core_size k.inputs.shape z) l sz f)

    module _ (f : length xs ≡ l) (m : ℕ) (g : m ≡ scratch_for (entries_of k.inputs.shape)) where
      past : (w : Check) → w ≡ behind → w ≡ CoreAsks
      past w o = found_goes rules (scratch_lent k.inputs.shape behind_part n) k (new_core z xs) h w (size_passes behind (Length slice_count) (length xs) (core_size k.inputs.shape z) l sz f w o)

      pub core_room : (n ≡ m → ⊥) → Err (Length behind_part) ≡ CoreAsks
      unfolding scratch_lent
      core_room o = past (Err (Length behind_part)) (size_stops (numbers_ok rules k (new_core z xs)) (Length behind_part) n (scratch_for (entries_of k.inputs.shape)) m g o)

      module _ (o : n ≡ m) (part : Bool) (p : part ≡ all_finite xs) where
        onward : (w : Check) → w ≡ (found_numbers k z (all_finite xs) true then shifts) → w ≡ CoreAsks
        unfolding scratch_lent numbers_ok
        onward w i =
            past w (size_passes (numbers_ok rules k (new_core z xs)) (Length behind_part) n (scratch_for (entries_of k.inputs.shape)) m g o w i)

        told : found_numbers k z part true ≡ found_numbers k z (all_finite xs) true
        told = ap (λ (b : Bool). (found_numbers k z b true)) p

        pub core_stops : (r : Refusal) → Err r ≡ found_numbers k z part true → Err r ≡ CoreAsks
        core_stops r i = onward (Err r) (refuses (found_numbers k z (all_finite xs) true) shifts r (i ∙ told))

        pub core_fits : Ok tt ≡ found_numbers k z part true → (w : Check) → w ≡ shifts → w ≡ CoreAsks
        core_fits i w j = onward w (passes (found_numbers k z (all_finite xs) true) shifts w (i ∙ told) j)

-- ---- a new axis record
module _ (k : Kept) (z : ℕ) (x : Axis) where
  abbrev new_shifts : Check
  new_shifts = demand_each Reach (axis_reaches k.inputs.set k.inputs.shape (set k.inputs.axes z x)) (k.inputs.shape.d - z) z

  module _ (n : ℕ) (h : Ok tt ≡ found_ok k z) (m : ℕ) (g : m ≡ scratch_for (entries_of k.inputs.shape)) where
    abbrev AxisAsks : Check
    AxisAsks = replace_ok rules (scratch_lent k.inputs.shape slice_count n) k (new_axis z x)

    beyond : (w : Check) → w ≡ (scratch_lent k.inputs.shape slice_count n then numbers_ok rules k (new_axis z x)) → w ≡ AxisAsks
    unfolding demand
    beyond w o = found_goes rules (scratch_lent k.inputs.shape slice_count n) k (new_axis z x) h w o

    pub axis_room : (n ≡ m → ⊥) → Err (Length slice_count) ≡ AxisAsks
    unfolding scratch_lent
    axis_room o = beyond (Err (Length slice_count)) (size_stops (numbers_ok rules k (new_axis z x)) (Length slice_count) n (scratch_for (entries_of k.inputs.shape)) m g o)

    module _ (o : n ≡ m) (part mild : Bool) (p : part ≡ axis_finite x) (q : mild ≡ axis_ok x) where
      further : (w : Check) → w ≡ (found_numbers k z (axis_finite x) (axis_ok x) then new_shifts) → w ≡ AxisAsks
      unfolding scratch_lent numbers_ok
      further w i =
          beyond w (size_passes (numbers_ok rules k (new_axis z x)) (Length slice_count) n (scratch_for (entries_of k.inputs.shape)) m g o w i)

      heard : found_numbers k z part mild ≡ found_numbers k z (axis_finite x) (axis_ok x)
      heard = ap (λ (b : Bool). (found_numbers k z b mild)) p ∙ ap (λ (b : Bool). (found_numbers k z (axis_finite x) b)) q

      pub axis_stops : (r : Refusal) → Err r ≡ found_numbers k z part mild → Err r ≡ AxisAsks
      axis_stops r i = further (Err r) (refuses (found_numbers k z (axis_finite x) (axis_ok x)) new_shifts r (i ∙ heard))

      pub axis_fits : Ok tt ≡ found_numbers k z part mild → (w : Check) → w ≡ new_shifts → w ≡ AxisAsks
      axis_fits i w j = further w (passes (found_numbers k z (axis_finite x) (axis_ok x)) new_shifts w (i ∙ heard) j)

pub ruleset found_right = (found_sizes, found_points, found_zone, found_shaped, found_lent)
