-- The checks of a fresh run in a row, by what code finds on its way. Assumes nothing.
use mathlib.Core.Path.{◌≡◌, refl, sym, ap, ◌∙◌}
use Prim.Native.Nat.{ℕ, ◌-◌}
use native.Mathlib.Nat.{sub-zero}
use mathlib.Core.List.{[], ◌∷◌}
use lib.ListN.{length}
use Rattle.answers.specs.declared.Refusal.{Refusal}
use Rattle.answers.specs.declared.Refusal.TheVariants.{Length, Reach}
use Rattle.std.specs.Prelude.{Ok, Err}
use Rattle.answers.specs.Outcome.{Check, ◌then◌, demand_each}
use Rattle.shape.specs.declared.Shape.{Shape}
use Rattle.shape.specs.Limits.{scratch_for}
use Rattle.shape.specs.Shapes.{chain_ok, entries_of}
use Rattle.stepform.specs.Zones.{rules}
use Rattle.stepform.specs.Call.{axis_reaches}
use Rattle.shape.proofs.Shaped.{fits_sizes, fits_points}
use Rattle.product.proofs.Checks.{refuses, passes}
use Rattle.run_checks.proofs.Guards.{size_stops, size_passes}
use Rattle.runform.specs.Slices.{Outputs, outputs_in_order, slice_count}
use Rattle.runform.specs.Kept.{Inputs}
use Rattle.runform.specs.Checks.{slices_lent, inputs_lent, outputs_lent, scratch_lent, in_reach_at, made_ok, fresh_ok}
use Rattle.runform.specs.Call.{room_lent}
use Rattle.runform.proofs.InRow.{lent_parts}

-- checks in a row, however they are grouped
row : (a b c d o : Check) → a then b then (c then d) then o ≡ a then (b then c) then d then o
row (Err r) b c d o = refl
row (Ok t1) (Err r) c d o = refl
row (Ok t1) (Ok t2) (Err r) d o = refl
row (Ok t1) (Ok t2) (Ok t3) d o = refl

module _ (i : Inputs) (m : Outputs ℕ) (n : ℕ) where
  abbrev s : Shape
  s = i.shape

  abbrev Lent : Check
  Lent = slices_lent s (length i.source ∷ length i.weights ∷ outputs_in_order m)

  abbrev Fresh : Check
  Fresh = fresh_ok rules (room_lent s m n) i

  abbrev shifts : Check
  shifts = demand_each Reach (axis_reaches i.set s i.axes) (s.d - 0) 0

  abbrev numbers : Check
  numbers = made_ok i then shifts

  fresh_row : Fresh ≡ chain_ok s then Lent then scratch_lent s slice_count n then numbers
  unfolding fresh_ok room_lent
  fresh_row =
      let all : demand_each Reach (in_reach_at rules i) s.d 0 ≡ shifts = ap (λ (j : ℕ). demand_each Reach (in_reach_at rules i) j 0) (sym (sub-zero s.d)) in
      let parts : Lent ≡ inputs_lent i then outputs_lent s m = lent_parts 0 2 (length i.source ∷ length i.weights ∷ []) _ (outputs_in_order m) _ refl refl in
      ap (λ (o : Check). chain_ok s then inputs_lent i then room_lent s m n then made_ok i then o) all
      ∙ row (chain_ok s) (inputs_lent i) (outputs_lent s m) (scratch_lent s slice_count n) numbers
      ∙ ap (λ (l : Check). chain_ok s then l then scratch_lent s slice_count n then numbers) (sym parts)

  pub shape_stops : (r : Refusal) → Err r ≡ chain_ok s → Err r ≡ Fresh
  shape_stops r h = refuses (chain_ok s) (Lent then scratch_lent s slice_count n then numbers) r h ∙ sym fresh_row

  module _ (shaped : Ok tt ≡ chain_ok s) where
    past : (x : Check) → x ≡ (Lent then scratch_lent s slice_count n then numbers) → x ≡ Fresh
    past x o = passes (chain_ok s) (Lent then scratch_lent s slice_count n then numbers) x shaped o ∙ sym fresh_row

    pub lent_stops : (r : Refusal) → Err r ≡ Lent → Err r ≡ Fresh
    lent_stops r g = past (Err r) (refuses Lent (scratch_lent s slice_count n then numbers) r g)

    module _ (lent : Ok tt ≡ Lent) (a : ℕ) (o : a ≡ scratch_for (entries_of s)) where
      further : (x : Check) → x ≡ (scratch_lent s slice_count n then numbers) → x ≡ Fresh
      further x p = past x (passes Lent (scratch_lent s slice_count n then numbers) x lent p)

      pub scratch_stops : (n ≡ a → ⊥) → Err (Length slice_count) ≡ Fresh
      unfolding scratch_lent
      scratch_stops q = further (Err (Length slice_count)) (size_stops numbers (Length slice_count) n (scratch_for (entries_of s)) a o q)

      module _ (q : n ≡ a) where
        onward : (x : Check) → x ≡ numbers → x ≡ Fresh
        unfolding scratch_lent
        onward x b = further x (size_passes numbers (Length slice_count) n (scratch_for (entries_of s)) a o q x b)

        pub numbers_stop : (r : Refusal) → Err r ≡ made_ok i → Err r ≡ Fresh
        numbers_stop r h = onward (Err r) (refuses (made_ok i) shifts r h)

        pub fresh_fits : Ok tt ≡ made_ok i → (x : Check) → x ≡ shifts → x ≡ Fresh
        fresh_fits h x b = onward x (passes (made_ok i) shifts x h b)

pub ruleset sized = (fits_sizes, fits_points)
