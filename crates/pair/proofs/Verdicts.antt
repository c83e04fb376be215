-- The checks of a pair by what code finds. Assumes nothing.
use Rattle.std.specs.Prelude.{Ok, Err}
use mathlib.Core.Path.{◌≡◌, sym, ap, ◌∙◌}
use Prim.Native.Nat.{ℕ, ◌*◌, ◌≤◌}
use native.Mathlib.Nat.{mul-le-mul}
use native.Mathlib.Omega.{arith}
use mathlib.Core.Bool.{Bool, true, false, ◌&&◌}
use mathlib.Core.List.{List, []}
use lib.Dec.{eqb}
use lib.Ieee.{Float}
use mir.Syntax.{w64}
use mir.Val.{Fits}
use Rattle.shape.specs.Limits.{most_points}
use Rattle.answers.specs.declared.Refusal.{Refusal}
use Rattle.answers.specs.Outcome.{Check, demand, ◌then◌}
use Rattle.answers.proofs.Checks.{demand_yes, demand_no, then_stops, then_passes}
use Rattle.lists.proofs.Tests.{eqb_yes, eqb_no, both}
use Rattle.pairform.specs.declared.Sizes as given
use Rattle.pairform.specs.Call.{core_of, sizes_ok, pair_sized, pair_lent, pair_finite, pair_ok}
use Rattle.pair.proofs.Checked.{sizes_are, demand_then}

-- ---- one demand of several: by a test, and by two counts that are equal
module _ (t : Bool) (q : Refusal) (o : Check) (b : Bool) (e : b ≡ t) where
  pub ask_no : b ≡ false → Err q ≡ (demand t q then o)
  ask_no h = sym (ap (λ (c : Check). (c then o)) (demand_no t q (sym e ∙ h)))

  pub ask_yes : b ≡ true → (w : Check) → w ≡ o → w ≡ (demand t q then o)
  ask_yes h w g = g ∙ sym (ap (λ (c : Check). (c then o)) (demand_yes t q (sym e ∙ h)))

module _ (a b : ℕ) (q : Refusal) (o : Check) where
  pub same_no : (a ≡ b → ⊥) → Err q ≡ (demand (eqb a b) q then o)
  same_no h = sym (ap (λ (c : Check). (c then o)) (demand_no (eqb a b) q (eqb_no a b h)))

  pub same_yes : a ≡ b → (w : Check) → w ≡ o → w ≡ (demand (eqb a b) q then o)
  same_yes h w g = g ∙ sym (ap (λ (c : Check). (c then o)) (demand_yes (eqb a b) q (eqb_yes a b h)))

-- ---- lines are counted of sizes within their limits only
pub lines_no : (s x : Bool) → s ≡ false → false ≡ s && x
lines_no s x h = rw h

pub lines_yes : (s x : Bool) → s ≡ true → x ≡ s && x
lines_yes s x h = rw h

-- ---- sizes within their limits
pub two_fit : (a b : ℕ) → a ≤ most_points → b ≤ most_points → Fits w64 (a * b)
two_fit a b h g = record { fits = omega (arith, mul-le-mul h g) }

pub three_fit : (a b c : ℕ) → a ≤ most_points → b ≤ most_points → c ≤ most_points → Fits w64 (a * b * c)
three_fit a b c h g k = record { fits = omega (arith, mul-le-mul (mul-le-mul h g) k) }

-- all three sizes
pub record Small (c : given.Sizes) : Type 0 where
  pub rl : c.rl ≤ most_points
  pub n : c.n ≤ most_points
  pub rr : c.rr ≤ most_points

pub small : (c : given.Sizes) → sizes_ok (core_of c []) ≡ true → Small c
small c e =
    let s = sizes_are (core_of c []) e in
    record { rl = let b = s.rl.bound in omega arith; n = s.n.bound; rr = let b = s.rr.bound in omega arith }

pub sized_small : (l r : given.Sizes) → pair_sized (core_of l []) (core_of r []) ≡ Ok tt → Small l × Small r
unfolding pair_sized
sized_small l r h =
    let (size0, a) = demand_then _ _ _ tt h in
    let (size1, b) = demand_then _ _ _ tt a in
    (small l (both (sizes_ok (core_of l [])) _ size0).0, small r (both (sizes_ok (core_of r [])) _ size1).0)

-- ---- all of them
module _ (l r : given.Sizes) (eps : Float) (left right : List Float) (lefts rights scratch : ℕ) (v : Check) (e : v ≡ pair_sized (core_of l []) (core_of r [])) where
  abbrev ok : Check
  ok = pair_ok (core_of l left) (core_of r right) eps lefts rights scratch

  abbrev rest : Check
  rest = pair_lent (core_of l left) (core_of r right) lefts rights scratch then pair_finite eps left right

  sizes_told : v ≡ pair_sized (core_of l left) (core_of r right)
  unfolding pair_sized sizes_ok
  sizes_told = e

  pub size_stops : (q : Refusal) → v ≡ Err q → Err q ≡ ok
  unfolding pair_ok
  size_stops q h = then_stops (pair_sized (core_of l left) (core_of r right)) rest v sizes_told q h

  module _ (h : v ≡ Ok tt) (w : Check) (f : w ≡ pair_lent (core_of l left) (core_of r right) lefts rights scratch) where
    pub length_stops : (q : Refusal) → w ≡ Err q → Err q ≡ ok
    unfolding pair_ok
    length_stops q g = then_passes (pair_sized (core_of l left) (core_of r right)) rest v sizes_told (Err q) h (then_stops (pair_lent (core_of l left) (core_of r right) lefts rights scratch) (pair_finite eps left right) w f q g)

    pub finite_ends : w ≡ Ok tt → (u : Check) → u ≡ pair_finite eps left right → u ≡ ok
    unfolding pair_ok
    finite_ends g u d = then_passes (pair_sized (core_of l left) (core_of r right)) rest v sizes_told u h (then_passes (pair_lent (core_of l left) (core_of r right) lefts rights scratch) (pair_finite eps left right) w f u g d)
