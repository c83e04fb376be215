-- `root_of_units u` is the f64 nearest to the root of u units. Assumes nothing.
use mathlib.Core.Path.{◌≡◌, refl, sym, subst}
use Prim.Native.Nat.{ℕ, suc, ◌+◌, ◌-◌, ◌*◌, ◌/◌, ◌%◌, ◌^◌, ◌≤◌, ◌<◌}
use native.Mathlib.Nat.{le_antisymm, lt_trans, lt_irrefl, add_comm, le_of_lt, lt_of_lt_of_le, zero-lt-suc, mul-pos}
use native.Mathlib.Omega.{arith}
use mathlib.Core.Bool.{Bool, true, false}
use borrow.Author.Tests.{ltb-false}
use lib.IntN.{ℤ}
use lib.Dec.{T, ltb}
use lib.Pow.{pow_pos, pow_mono, shl_lt}
use lib.Ieee.{Float, nan, inf, fin, binary64, up, down, odd, fits, lt}
use lib.Ieee.Fits.{odd-fits, down_pos}
use lib.Ieee.Exact.{HasValue, odd_sign}
use lib.Ieee.Positive.{positive, positive_of_value}
use Rattle.numbers.specs.Value.{units_in, plain}
use Rattle.numbers.specs.Root.{whole_root, root_of_units, NearestRoot}
use Rattle.numbers.proofs.Values.{value_unique}
use Rattle.numbers.proofs.Units.{Digits, digits, units_of_lem, lt_units, below_top, few_zeros}
use Rattle.numbers.proofs.WholeRoot.{IsRoot, whole_root_ok}
use Rattle.numbers.proofs.RootPattern.{bounds, root_at}
use Rattle.numbers.proofs.Midpoints.{Scaled, scaled, above, beneath, four_times}

pub even_square : (M : ℕ) → M * 2 ^ 54 % 2 ≡ 0
even_square M = omega arith

positive_plain : (r : Float) → T (positive r) → T (plain r)
positive_plain nan p = p
positive_plain (inf s) p = p
positive_plain (fin true m e) p = p
positive_plain (fin false m e) p = tt

finite_digits : (y : Float) → T (fits binary64 y) → T (plain y) → (n : ℕ) × Digits y n
finite_digits nan f p = absurd p
finite_digits (inf s) f p = absurd p
finite_digits (fin true m e) f p = absurd p
finite_digits (fin false m e) f p = (m, digits false m e f)

module _ (u : ℕ) (S : Scaled u) where
  abbrev p : ℕ
  p = S.M * 2 ^ 54

  abbrev q : ℕ
  q = whole_root (S.M * 2 ^ 54)

  abbrev v : ℕ
  v = (q + 1) / 2 * 2 ^ (S.J + 1)

  abbrev r : Float
  r = odd 53 false ((q + 1) / 2) (S.J + 1) 1074

  R : IsRoot p q
  R = whole_root_ok p

  B : (2 ^ 53 ≤ q) × (q < 2 ^ 54 - 1)
  B = bounds S.M q S.low S.high R

  rooted : root_of_units u ≡ r
  rooted = root_at u p S.J S.is (omega (arith, S.low)) (omega (arith, S.high))

  sized : HasValue r false v (2 ^ 1074)
  sized = odd_sign 53 false ((q + 1) / 2) (S.J + 1) 1074

  r_positive : T (positive r)
  r_positive = positive_of_value r v (2 ^ 1074) sized (mul-pos (omega (arith, B.0)) (pow_pos (S.J + 1)))

  r_fits : T (fits binary64 r)
  r_fits =
      let few : (q + 1) / 2 < 2 ^ 53 = omega (arith, B.1) in
      let small : 53 + (S.J + 1) ≤ 1074 + 1024 = omega (arith, S.most) in
      odd-fits binary64 53 false ((q + 1) / 2) (S.J + 1) few (le_of_lt few) (lt_of_lt_of_le (shl_lt 53 (S.J + 1) few) (pow_mono small))

  r_units : units_in r ≡ v
  r_units = units_of_lem r false v sized

  four : 4 * (u * 2 ^ 1074) ≡ p * (2 ^ (S.J + 1) * 2 ^ (S.J + 1))
  four = four_times u p S.J S.is

  each_under : (y : Float) → T (fits binary64 y) → T (plain y) → T (lt y r) → (units_in r + units_in y) * (units_in r + units_in y) < 4 * (u * 2 ^ 1074)
  each_under y f P h =
      let i = finite_digits y f P in
      let d = i.1 in
      let l = lt_units y r f r_fits P (positive_plain r r_positive) h in
      rw (r_units, d.is, four) (beneath p q S.J R B.0 (even_square S.M) i.0 d.k d.few (rw (r_units, d.is) at l))

  each_over : (y : Float) → T (fits binary64 y) → T (plain y) → T (lt r y) → 4 * (u * 2 ^ 1074) < (units_in r + units_in y) * (units_in r + units_in y)
  each_over y f P h =
      let i = finite_digits y f P in
      let d = i.1 in
      let l = lt_units r y r_fits f (positive_plain r r_positive) P h in
      rw (r_units, d.is, four) (above p q S.J R B.0 (even_square S.M) i.0 d.k d.few (rw (r_units, d.is) at l))

  nearest_at : (x : Float) → units_in x ≡ u → NearestRoot x (root_of_units u)
  nearest_at x e = rw rooted (record { held = r_fits; above_zero = r_positive; under = λ y f P h. rw e (each_under y f P h); over = λ y f P h. rw e (each_over y f P h) })

pub nearest : (m : ℕ) (e : ℤ) → T (fits binary64 (fin false (suc m) e)) → NearestRoot (fin false (suc m) e) (root_of_units (units_in (fin false (suc m) e)))
nearest m e f =
    let x = fin false (suc m) e in
    let d = digits false (suc m) e f in
    let j : d.k ≤ 2097 = few_zeros (suc m) d.k (zero-lt-suc m) (rw d.is at (below_top false (suc m) e f)) in
    rw d.is (nearest_at (suc m * 2 ^ d.k) (scaled (suc m) d.k (zero-lt-suc m) d.few j) x d.is)

-- ---- no other f64 is as near
apart : (x r s : Float) → NearestRoot x r → NearestRoot x s → T (lt r s) → ⊥
apart x r s p q h =
    let a = p.over s q.held (positive_plain s q.above_zero) h in
    let b = q.under r p.held (positive_plain r p.above_zero) h in
    lt_irrefl (4 * (units_in x * 2 ^ 1074)) (lt_trans a (rw (add_comm (units_in s) (units_in r)) at b))

pub only : (x r s : Float) → NearestRoot x r → NearestRoot x s → r ≡ s
unfolding lt
only x nan s p q = absurd p.above_zero
only x (inf t) s p q = absurd p.above_zero
only x (fin true m e) s p q = absurd p.above_zero
only x (fin false m e) nan p q = absurd q.above_zero
only x (fin false m e) (inf t) p q = absurd q.above_zero
only x (fin false m e) (fin true n d) p q = absurd q.above_zero
only x (fin false m e) (fin false n d) p q = go (ltb a b) (ltb b a) refl refl
  where
    r : Float
    r = fin false m e

    s : Float
    s = fin false n d

    a : ℕ
    a = m * up e * down d

    b : ℕ
    b = n * up d * down e

    go : (i j : Bool) → ltb a b ≡ i → ltb b a ≡ j → r ≡ s
    go true j h k = absurd (apart x r s p q (subst T (sym h) tt))
    go false true h k = absurd (apart x s r q p (subst T (sym k) tt))
    go false false h k = value_unique binary64 r s false (m * up e) (down e) (down_pos e) p.held q.held (refl, refl) (refl, le_antisymm (ltb-false a b h) (ltb-false b a k))
