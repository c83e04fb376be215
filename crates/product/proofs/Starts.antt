-- The separable start by what code finds. Assumes nothing.
use mathlib.Core.Path.{◌≡◌, sym, ap, ◌∙◌}
use Prim.Native.Nat.{ℕ, ◌≤◌}
use native.Mathlib.Nat.{le_of_eq}
use native.Mathlib.Omega.{arith}
use mathlib.Core.List.{List}
use lib.ListN.{length}
use lib.Ieee.{Float}
use Rattle.answers.specs.declared.Refusal.{Refusal}
use Rattle.answers.specs.declared.Refusal.TheVariants.{Axes, Size, Length}
use Rattle.std.specs.Prelude.{Ok, Err}
use Rattle.answers.specs.Outcome.{◌then◌, demand, demand_each}
use Rattle.answers.proofs.Checks.{demand_is, then_is, each_is}
use Rattle.lists.proofs.Asked.{lengths_say}
use Rattle.shape.specs.declared.Shape.{Shape}
use Rattle.shape.specs.Limits.{most_axes, most_points, within}
use Rattle.shape.specs.Shapes.{points_of, all_points}
use Rattle.shape.specs.Sizes.{PointsWithin}
use Rattle.shape.proofs.Shaped.{within_is}
use Rattle.product.proofs.Checks.{in_a_row}
use Rattle.sumform.specs.Start.{start_sized, start_lent, start_finite, start_ok, rank_one, start_by, start_call}

-- sizes that passed
pub sized_points : (s : Shape) → Ok tt ≡ start_sized s → PointsWithin s
unfolding start_sized
sized_points s h =
    let a = then_is (demand (within most_axes s.d) Axes) (demand_each Size (λ (k : ℕ). within most_points (points_of s k)) s.d 0) tt (sym h) in
    let w = within_is most_axes s.d (demand_is (within most_axes s.d) Axes a.0) in
    record { least = w.0; most = w.1; points = λ k l. within_is most_points (points_of s k) (each_is Size (λ (k : ℕ). within most_points (points_of s k)) s.d 0 a.1 k (omega arith) (omega arith)) }

-- vectors whose length passed
pub vectors_long : (s : Shape) (vectors chain : ℕ) → Ok tt ≡ start_lent s vectors chain → all_points s ≤ vectors
unfolding start_lent
vectors_long s vectors chain e = le_of_eq (sym (lengths_say vectors (all_points s) chain (all_points s) (Length 0) (Length 1) (sym e)).0)

pub ruleset starts_in_a_row = (in_a_row, sized_points, vectors_long)

-- ---- the call, by the verdict of its checks
module _ (s : Shape) (vectors chain : List Float) where
  module _ (r : Refusal) (h : Err r ≡ start_ok s vectors (length chain)) where
    pub start_refused : Err r ≡ (start_call s vectors chain).result
    unfolding start_call
    start_refused = ap (λ c. (start_by s vectors chain c).result) h

    pub start_kept : chain ≡ (start_call s vectors chain).chain
    unfolding start_call
    start_kept = ap (λ c. (start_by s vectors chain c).chain) h

  module _ (h : Ok tt ≡ start_ok s vectors (length chain)) where
    pub same_length : length vectors ≡ length chain
    unfolding start_ok start_lent
    same_length =
        let a = then_is (start_sized s) (start_lent s (length vectors) (length chain) then start_finite s vectors) tt (sym h) in
        let b = then_is (start_lent s (length vectors) (length chain)) (start_finite s vectors) tt a.1 in
        let w = lengths_say (length vectors) (all_points s) (length chain) (all_points s) (Length 0) (Length 1) b.0 in
        w.0 ∙ sym w.1

    pub start_made : (x : Shape) → x ≡ rank_one s → Ok x ≡ (start_call s vectors chain).result
    unfolding start_call
    start_made x g = ap Ok g ∙ ap (λ c. (start_by s vectors chain c).result) h

    pub start_copied : (out : List Float) → out ≡ vectors → out ≡ (start_call s vectors chain).chain
    unfolding start_call
    start_copied out g = g ∙ ap (λ c. (start_by s vectors chain c).chain) h

pub ruleset starts_checked = (start_refused, start_kept, same_length, start_made, start_copied)
