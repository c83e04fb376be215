-- Where products tell without a root that a pair is turned: alpha * alpha is above 5e-28 times bp * bq. Assumes nothing.
use mathlib.Core.Path.{◌≡◌, refl, sym, ap, ◌∙◌}
use Prim.Native.Nat.{ℕ, zero, suc, ◌+◌, ◌*◌, ◌^◌, ◌≤◌, ◌<◌}
use native.Mathlib.Nat.{le_of_lt, lt_irrefl, lt_of_not-le, le_of_suc-le-suc, le_of_mul-le-mul_right, mul-le-mul, mul-le-mul_right, mul-pos, zero-lt-suc}
use native.Mathlib.Omega.{arith}
use mathlib.Core.Bool.{Bool, true, false, cond, ◌&&◌, ◌||◌, true≢false, false≢true}
use lib.IntN.{ℤ, pos, negsuc}
use lib.Dec.{T, ltb, eqb, lt→ltb, lit≤}
use lib.Pow.{pow_pos}
use lib.Ieee.{Float, nan, inf, fin, binary64, up, down, unlike, odd, units, round, neg, mul, div, lt, le, fits, of_bits}
use lib.Ieee.Fits.{up_pos, down_pos, round_is, mul-fits}
use lib.Ieee.Order.{drop, kept, round_mono}
use lib.Ieee.Positive.{above_of_le, le→cross}
use Rattle.numbers.specs.Arithmetic.{times, over, zero64, tolerance64}
use Rattle.numbers.specs.Magnitude.{magnitude_of}
use Rattle.numbers.specs.Root.{NearestRoot, root_of}
use Rattle.numbers.specs.Value.{units_in}
use Rattle.numbers.proofs.Values.{round_neg}
use Rattle.numbers.proofs.Theorems.{root_right, units_exact}
use Rattle.lists.proofs.Tests.{holds, passes, fails, ltb_is, ltb_no, eqb_no}
use Rattle.pairform.specs.Columns.{skipped}

-- ---- plain numbers
-- r / t is at most twice the root of p / q; u and U are the two in units of 1 / w
root_cross : (r t p q u U w : ℕ) → 0 < w → r * w ≡ u * t → p * w ≡ U * q → (u + 0) * (u + 0) < 4 * (U * w) → r * r * q ≤ 4 * p * (t * t)
root_cross r t p q u U w W a b h =
    let i : r * w * (r * w) * q ≡ u * t * (u * t) * q = ap (λ (z : ℕ). z * z * q) a in
    let j : p * w * (w * (t * t)) ≡ U * q * (w * (t * t)) = ap (λ (z : ℕ). z * (w * (t * t))) b in
    let k : (u + 0) * (u + 0) * (t * t * q) ≤ 4 * (U * w) * (t * t * q) = mul-le-mul_right (t * t * q) (le_of_lt h) in
    let l : r * r * q * (w * w) ≤ 4 * p * (t * t) * (w * w) = omega arith in
    le_of_mul-le-mul_right l (mul-pos W W)

-- so x / y over r / t is 3 / c at least, where x / y squared is above k / w of p / q, and k / w is 36 / (c * c) at least
quotient_cross : (p q x y r t k w c : ℕ) → 0 < q → 0 < w → 36 * w ≤ k * (c * c) → p * k * (y * y) < x * x * (q * w) → r * r * q ≤ 4 * p * (t * t) → 3 * (r * y) ≤ x * t * c
quotient_cross p q x y r t k w c Q W f h b = le_of_suc-le-suc (lt_of_not-le (λ (g : suc (x * t * c) ≤ 3 * (r * y)).
    let i = mul-le-mul_right q (mul-le-mul g g) in
    let j = mul-le-mul_right (y * y) b in
    let l : c * c * (x * x * (t * t) * q) + q ≤ 36 * (p * (t * t) * (y * y)) = omega arith in
    let u = mul-le-mul_right w l in
    let v = mul-le-mul_right (p * (t * t) * (y * y)) f in
    let z = mul-le-mul_right (t * t * (c * c)) (le_of_lt h) in
    let d = mul-pos Q W in
    omega arith))

-- ---- f64
-- 5e-28
abbrev limit64 : Float
limit64 = of_bits binary64 0x3a43_ce9a_36f2_3c10

-- 3 / 2 ^ 48, which is above 1e-14 and an f64
abbrev more64 : Float
more64 = fin false 3 (negsuc 47)

more_is : round binary64 false 3 (2 ^ 48) ≡ more64
unfolding round
more_is = refl

-- what is at least that isn't within the tolerance
far : (v : Float) → T (le more64 v) → le (magnitude_of v) tolerance64 ≡ false
unfolding le magnitude_of of_bits
far nan h = refl
far (inf s) h = refl
far (fin true m e) h = absurd (above_of_le more64 (fin true m e) tt h)
far (fin false m e) h =
    let a = above_of_le more64 (fin false m e) tt h in
    let j = le→cross more64 (fin false m e) tt a h in
    fails (le (fin false m e) tolerance64) (λ g. let k = le→cross (fin false m e) tolerance64 a tt (holds (le (fin false m e) tolerance64) g) in let d = down_pos e in omega arith)

magnitude_neg : (v : Float) → magnitude_of (neg v) ≡ magnitude_of v
unfolding magnitude_of neg
magnitude_neg nan = refl
magnitude_neg (inf s) = refl
magnitude_neg (fin s m e) = refl

far_rounded : (s : Bool) (a c : ℕ) → 0 < c → 3 * c ≤ a * 2 ^ 48 → le (magnitude_of (round binary64 s a c)) tolerance64 ≡ false
far_rounded s a c C h = go s
  where
    v : Float
    v = round binary64 false a c

    above : T (le more64 v)
    above = rw (← more_is) (round_mono binary64 3 (2 ^ 48) a c (pow_pos 48) C h)

    go : (s : Bool) → le (magnitude_of (round binary64 s a c)) tolerance64 ≡ false
    go false = far v above
    go true = ap (λ (z : Float). le (magnitude_of z) tolerance64) (round_neg binary64 a c) ∙ ap (λ (z : Float). le z tolerance64) (magnitude_neg v) ∙ far v above

-- what is rounded without a sign is at most the infinity
units_le : (q k : ℕ) → le (units binary64 false q k) (inf false) ≡ true
unfolding units le odd
units_le q k = go (ltb (q * 2 ^ k) (2 ^ 2098)) q
  where
    go : (b : Bool) (q : ℕ) → le (cond b (odd 54 false q k 1074) (inf false)) (inf false) ≡ true
    go true zero = refl
    go true (suc q) = refl
    go false q = refl

round_le : (a c : ℕ) → le (round binary64 false a c) (inf false) ≡ true
round_le a c = ap (λ (z : Float). le z (inf false)) (round_is binary64 false a c) ∙ units_le (kept 53 (a * 2 ^ 1074) c) (drop 53 (a * 2 ^ 1074) c)

-- what is above isn't at most
not_below : (a b : ℕ) (c : Bool) → b < a → ltb a b || (eqb a b && c) ≡ false
not_below a b c h = rw (ltb_no a b (le_of_lt h), eqb_no a b (λ e. omega arith))

over_is : (s : Bool) (n : ℕ) (g : ℤ) (k : ℕ) (d : ℤ) → over (fin s n g) (fin false (suc k) d) ≡ round binary64 (unlike s false) (n * up g * down d) (suc k * up d * down g)
unfolding div
over_is s n g k d = ap (λ (b : Bool). cond b (cond (eqb n 0) nan (inf (unlike s false))) (round binary64 (unlike s false) (n * up g * down d) (suc k * up d * down g))) (eqb_no (suc k) 0 (λ e. omega arith))

-- ---- the pair
module _ (m : ℕ) (e : ℤ) (f : T (fits binary64 (fin false (suc m) e))) where
  -- the rounded root is at most twice the root: 0 is farther away from that than it is
  rooted : (k : ℕ) (d : ℤ) → NearestRoot (fin false (suc m) e) (fin false (suc k) d) → suc k * up d * (suc k * up d) * down e ≤ 4 * (suc m * up e) * (down d * down d)
  unfolding fits lt
  rooted k d N =
      root_cross (suc k * up d) (down d) (suc m * up e) (down e) (units_in (fin false (suc k) d)) (units_in (fin false (suc m) e)) (2 ^ 1074) (pow_pos 1074)
      (units_exact false (suc k) d N.held).1 (units_exact false (suc m) e f).1
      (N.under (fin false 0 (pos 0)) tt tt (lt→ltb (0 * down d) (suc k * up d * 1) (let u = mul-pos (zero-lt-suc k) (up_pos d) in omega arith)))

  -- rounding keeps the order, so the products before it are in the order of those behind it
  crossed : (s : Bool) (n : ℕ) (d : ℤ) → le (times (fin s n d) (fin s n d)) (times (fin false (suc m) e) limit64) ≡ false
      → suc m * up e * 348449143727041 * (down d * down d) < n * up d * (n * up d) * (down e * 2 ^ 139)
  unfolding mul of_bits
  crossed s n d h = lt_of_not-le (λ g. true≢false (sym (passes _ (round_mono binary64 _ _ _ _ (mul-pos (down_pos d) (down_pos d)) (mul-pos (down_pos e) (pow_pos 139)) g)) ∙ go s h))
    where
      go : (s : Bool) → le (times (fin s n d) (fin s n d)) (times (fin false (suc m) e) limit64) ≡ false
          → le (round binary64 false (n * up d * (n * up d)) (down d * down d)) (round binary64 false (suc m * up e * 348449143727041) (down e * 2 ^ 139)) ≡ false
      go true h = h
      go false h = h

  turned : (r a : Float) → NearestRoot (fin false (suc m) e) r → le (times a a) (times (fin false (suc m) e) limit64) ≡ false
      → (le r zero64 ≡ false) × (le (magnitude_of (over a r)) tolerance64 ≡ false)
  unfolding le magnitude_of div of_bits
  turned nan a N h = absurd N.above_zero
  turned (inf s) a N h = absurd N.above_zero
  turned (fin true k d) a N h = absurd N.above_zero
  turned (fin false zero d) a N h = absurd N.above_zero
  turned (fin false (suc k) d) a N h = (not_below (suc k * up d * 1) (0 * down d) true (let u = mul-pos (zero-lt-suc k) (up_pos d) in omega arith), go a h)
    where
      go : (a : Float) → le (times a a) (times (fin false (suc m) e) limit64) ≡ false → le (magnitude_of (over a (fin false (suc k) d))) tolerance64 ≡ false
      go nan h = refl
      go (inf s) h = refl
      go (fin s n g) h =
          ap (λ (z : Float). le (magnitude_of z) tolerance64) (over_is s n g k d)
          ∙ far_rounded (unlike s false) (n * up g * down d) (suc k * up d * down g) (mul-pos (mul-pos (zero-lt-suc k) (up_pos d)) (down_pos g))
          (quotient_cross (suc m * up e) (down e) (n * up g) (down g) (suc k * up d) (down d) 348449143727041 (2 ^ 139) (2 ^ 48) (down_pos e) (pow_pos 139) (lit≤ tt) (crossed s n g h) (rooted k d N))

plainly : (a b : Float) → T (fits binary64 b) → lt zero64 b ≡ true → le (times a a) (times b limit64) ≡ false
    → (le (root_of b) zero64 ≡ false) × (le (magnitude_of (over a (root_of b))) tolerance64 ≡ false)
unfolding lt le mul div root_of magnitude_of of_bits
plainly a nan f h g = absurd (false≢true h)
plainly a (inf true) f h g = absurd (false≢true h)
plainly nan (inf false) f h g = (refl, refl)
plainly (inf true) (inf false) f h g = absurd (true≢false g)
plainly (inf false) (inf false) f h g = absurd (true≢false g)
plainly (fin true n d) (inf false) f h g = absurd (true≢false (sym (round_le (n * up d * (n * up d)) (down d * down d)) ∙ g))
plainly (fin false n d) (inf false) f h g = absurd (true≢false (sym (round_le (n * up d * (n * up d)) (down d * down d)) ∙ g))
plainly a (fin true m e) f h g = absurd (false≢true h)
plainly a (fin false zero e) f h g = let l = ltb_is (0 * down e) (0 * up e * 1) h in absurd (lt_irrefl 0 (omega arith))
plainly a (fin false (suc m) e) f h g = turned m e f (root_of (fin false (suc m) e)) a (root_right (fin false (suc m) e) f) g

pub turned_plainly : (a b c : Float) → lt zero64 (times b c) ≡ true → le (times a a) (times (times b c) limit64) ≡ false → skipped a b c ≡ false
unfolding skipped
turned_plainly a b c h g = let z = plainly a (times b c) (mul-fits binary64 b c) h g in rw (z.0, z.1)
