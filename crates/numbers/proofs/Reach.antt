-- Within reach the floor is a small integer: what `whole` answers. Assumes nothing.
use mathlib.Core.Path.{◌≡◌, refl, sym, ap, ◌∙◌}
use Prim.Native.Nat.{ℕ, zero, suc, ◌+◌, ◌*◌, ◌^◌, ◌≤◌, ◌<◌, zero-le}
use native.Mathlib.Nat.{le_trans, le_refl, le_of_eq, le_of_lt, lt_of_lt_of_le, le_of_mul-le-mul_right, lt_of_mul-lt-mul_right, le_of_suc-le-suc, suc-mul, mul-one, add-le-add}
use native.Mathlib.Omega.{arith}
use mathlib.Core.Bool.{Bool, true, false, ◌&&◌, ◌||◌, cond, false≢true}
use borrow.Author.Tests.{ltb-true, eqb-true}
use lib.IntN.{ℤ, pos, negsuc, nat_abs}
use lib.Dec.{T, eqb, ltb, le→leb, lt→ltb}
use lib.Ieee.{Float, nan, inf, fin, binary64, up, down, neg, le, fits, of_int, to_signed, in_signed, in_float, of_bits}
use lib.Ieee.Fits.{down_pos}
use lib.Ieee.Back.{positive_back, negative_back}
use Rattle.numbers.specs.Arithmetic.{plus, zero64, farthest64}
use Rattle.numbers.specs.Finite.{finite}
use Rattle.numbers.specs.Floor.{cut, floor_of}
use Rattle.numbers.specs.Whole.{signed, whole_of, in_reach, whole_in_reach}
use Rattle.numbers.proofs.FloorExact.{around}
use Rattle.numbers.proofs.Comparisons.{both}
use Rattle.numbers.proofs.Fractions.{floor_cleared}

-- ---- an x within reach is at most 2 ^ 31 in size
le_size : (a b : ℕ) (q : Bool) → (q ≡ true → a ≡ b) → ltb a b || q ≡ true → a ≤ b
le_size a b q e h = go (ltb a b) refl h
  where
    go : (p : Bool) → ltb a b ≡ p → p || q ≡ true → a ≤ b
    go true k h = le_of_lt (ltb-true a b k)
    go false k h = le_of_eq (e h)

reach_size : (s : Bool) (m : ℕ) (e : ℤ) → in_reach (fin s m e) ≡ true → m * up e ≤ 2 ^ 31 * down e
unfolding le neg of_bits
reach_size false m e h =
    let a = m * up e * 1 in
    let b = 2 ^ 31 * down e in
    le_trans (le_of_eq (sym (mul-one (m * up e))))
    (le_size a b (eqb a b && true) (λ k. eqb-true a b (both (eqb a b) true k).0) (both (le (neg farthest64) (fin false m e)) (le (fin false m e) farthest64) h).1)
reach_size true m e h =
    let a = m * up e * 1 in
    let b = 2 ^ 31 * down e in
    le_trans (le_of_eq (sym (mul-one (m * up e))))
    (le_size a b (eqb b a && true) (λ k. sym (eqb-true b a (both (eqb b a) true k).0)) (both (le (neg farthest64) (fin true m e)) (le (fin true m e) farthest64) h).0)

pub reach_finite : (x : Float) → in_reach x ≡ true → T (finite x)
unfolding le neg of_bits
reach_finite nan h = absurd (false≢true h)
reach_finite (inf true) h = absurd (false≢true h)
reach_finite (inf false) h = absurd (false≢true h)
reach_finite (fin s m e) h = tt

-- ---- so its floor is
cut_le : (s : Bool) (a b n : ℕ) → 0 < b → a ≤ n * b → cut s a b ≤ n
cut_le s a b n B h = go s (cut s a b) (around s a b B)
  where
    go : (s : Bool) (c : ℕ) → cond s ((a ≤ c * b) × (c * b < a + b)) ((c * b ≤ a) × (a < c * b + b)) → c ≤ n
    go false c r = le_of_mul-le-mul_right (le_trans r.0 h) B
    go true c r = le_of_suc-le-suc (lt_of_mul-lt-mul_right b (lt_of_lt_of_le r.1 (le_trans (add-le-add h (le_refl b)) (le_of_eq (sym (suc-mul n b))))))

signed_size : (s : Bool) (c : ℕ) → nat_abs (signed s c) ≡ c
signed_size false c = refl
signed_size true zero = refl
signed_size true (suc c) = refl

pub whole_small : (x : Float) → in_reach x ≡ true → nat_abs (whole_of x) ≤ 2 ^ 31
unfolding whole_of
whole_small nan h = zero-le
whole_small (inf s) h = zero-le
whole_small (fin s m e) h = rw (signed_size s (cut s (m * up e) (down e))) (cut_le s (m * up e) (down e) (2 ^ 31) (down_pos e) (reach_size s m e h))

-- ---- what `whole` answers within reach is the floor, and is small in any case
pub in_reach_whole : (x : Float) (z : ℤ) → z ≡ whole_in_reach x → in_reach x ≡ true → z ≡ whole_of x
in_reach_whole x z e h = e ∙ ap (λ (b : Bool). cond b (whole_of x) (pos 0)) h

pub in_reach_small : (x : Float) (z : ℤ) → z ≡ whole_in_reach x → nat_abs z ≤ 2 ^ 31
in_reach_small x z e = rw e (go (in_reach x) (whole_small x))
  where
    go : (b : Bool) → (b ≡ true → nat_abs (whole_of x) ≤ 2 ^ 31) → nat_abs (cond b (whole_of x) (pos 0)) ≤ 2 ^ 31
    go true h = h refl
    go false h = zero-le

-- ---- the same, from the floor's f64
-- the cast is asked that nothing is lost, and gives the integer back
small_back : (z : ℤ) → nat_abs z ≤ 2 ^ 31 → T (in_signed binary64 63 (of_int binary64 z)) × (to_signed 63 (of_int binary64 z) ≡ z)
unfolding in_float
small_back (pos n) h = positive_back binary64 63 n (le→leb n (2 ^ 53) (omega arith)) (omega arith)
small_back (negsuc k) h = negative_back binary64 63 k (lt→ltb k (2 ^ 53) (omega arith)) (omega arith)

pub floor_cast : (x y : Float) → T (fits binary64 x) → in_reach x ≡ true → y ≡ floor_of x → T (in_signed binary64 63 (plus y zero64)) × (to_signed 63 (plus y zero64) ≡ whole_in_reach x)
floor_cast x y f h e = rw (e, floor_cleared x f (reach_finite x h), h) (small_back (whole_of x) (whole_small x h))
