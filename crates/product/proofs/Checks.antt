-- The checks of an inner product by what code finds. Assumes nothing.
use mathlib.Core.Path.{◌≡◌, sym, ap, ◌∙◌}
use Prim.Native.Nat.{ℕ, ◌≤◌, ◌<◌}
use native.Mathlib.Nat.{le_of_eq}
use mathlib.Core.Bool.{Bool}
use mathlib.Core.List.{List}
use lib.ListN.{length}
use lib.Ieee.{Float}
use Rattle.answers.specs.declared.Refusal.{Refusal}
use Rattle.answers.specs.declared.Refusal.TheVariants.{Number, Length}
use Rattle.std.specs.Prelude.{Ok, Err}
use Rattle.answers.specs.Outcome.{Answer, Check, ◌then◌}
use Rattle.answers.proofs.Checks.{then_is}
use Rattle.lists.specs.Lists.{first_not}
use Rattle.lists.specs.Floats.{all_finite}
use Rattle.lists.proofs.Asked.{tested, length_wrong, length_right, place_wrong, places_right, lengths_say, left_wrong, neither_wrong, right_wrong}
use Rattle.shape.specs.declared.Shape.{Shape}
use Rattle.shape.specs.Shapes.{chain_ok, entries_of, all_points}
use Rattle.shape.specs.Cores.{core_at, points_at}
use Rattle.shape.proofs.Shaped.{fits_sizes}
use Rattle.shape.proofs.Verdicts.{within_most}
use Rattle.sumform.specs.Call.{inner_lent, inner_finite, inner_ok}

module _ (s : Shape) (chain weights : List Float) (i j : ℕ)
    (e : i ≡ first_not (λ (k : ℕ). all_finite (core_at s chain k).entries) s.d) (f : j ≡ first_not (λ (k : ℕ). all_finite (points_at s weights k)) s.d) where
  abbrev core : ℕ → Bool
  core k = all_finite (core_at s chain k).entries

  abbrev axis : ℕ → Bool
  axis k = all_finite (points_at s weights k)

  pub core_wrong : i ≤ j → i < s.d → Err (Number i) ≡ inner_finite s chain weights
  unfolding inner_finite
  core_wrong h l = left_wrong core axis s.d i j e f Number h l

  pub all_right : i ≤ j → s.d ≤ i → Ok tt ≡ inner_finite s chain weights
  unfolding inner_finite
  all_right h l = neither_wrong core axis s.d i j e f Number h l

  pub axis_wrong : j < i → Err (Number j) ≡ inner_finite s chain weights
  unfolding inner_finite
  axis_wrong h = right_wrong core axis s.d i j e f Number h

pub ruleset finite_found = (core_wrong, all_right, axis_wrong)

-- ---- checks in a row by `?`: one law for a check that refuses, one for one that passes
module _ {A : Type 0} (c : Check) (o : Answer A) where
  pub refuses : (r : Refusal) → Err r ≡ c → Err r ≡ (c then o)
  refuses r h = ap (λ (x : Check). x then o) h

  pub passes : (w : Answer A) → Ok tt ≡ c → w ≡ o → w ≡ (c then o)
  passes w h g = g ∙ ap (λ (x : Check). x then o) h

-- lengths that passed
module _ (s : Shape) (chain weights : ℕ) (ok : Ok tt ≡ inner_lent s chain weights) where
  lent_say : (chain ≡ entries_of s) × (weights ≡ all_points s)
  unfolding inner_lent
  lent_say = lengths_say chain (entries_of s) weights (all_points s) (Length 0) (Length 1) (sym ok)

  pub chain_long : entries_of s ≤ chain
  chain_long = le_of_eq (sym lent_say.0)

  pub weights_long : all_points s ≤ weights
  weights_long = le_of_eq (sym lent_say.1)

pub ruleset in_a_row = (refuses, passes, tested, length_wrong, length_right, place_wrong, places_right, within_most, fits_sizes, chain_long, weights_long)

-- ---- what the sums ask
module _ (s : Shape) (chain weights : List Float) (ok : Ok tt ≡ inner_ok s chain weights) where
  passed : (chain_ok s ≡ Ok tt) × (inner_lent s (length chain) (length weights) ≡ Ok tt)
  unfolding inner_ok
  passed =
      let a = then_is (chain_ok s) (inner_lent s (length chain) (length weights) then inner_finite s chain weights) tt (sym ok) in
      let b = then_is (inner_lent s (length chain) (length weights)) (inner_finite s chain weights) tt a.1 in
      (a.0, b.0)

  pub inner_shaped : chain_ok s ≡ Ok tt
  inner_shaped = passed.0

  pub inner_long : (entries_of s ≤ length chain) × (all_points s ≤ length weights)
  inner_long = (chain_long s (length chain) (length weights) (sym passed.1), weights_long s (length chain) (length weights) (sym passed.1))

pub ruleset inner_checked = (refuses, passes, inner_shaped, inner_long)
