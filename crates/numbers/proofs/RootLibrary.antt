-- The library's square root is `root_of`: what it hands to `round` lies in the same half of a rounding step as the root. Assumes nothing.
use mathlib.Core.Path.{◌≡◌, refl, sym, ap, ◌∙◌}
use Prim.Native.Nat.{ℕ, zero, suc, ◌+◌, ◌-◌, ◌*◌, ◌/◌, ◌%◌, ◌^◌, ◌≤◌, ◌<◌, compare, Ordering}
use native.Mathlib.Nat.{le_trans, le_of_eq, le_of_lt, lt_of_lt_of_le, mul_comm, mul_assoc, mul_right_comm, mul-mul-mul_comm, mul-pos, mul-le-mul_right, mul-lt-mul_of_pos_right, mul-div_cancel, eq_of_mul-eq-mul_right}
use native.Mathlib.Nat.{le-div_iff_mul-le, div-lt_iff_lt-mul, zero-lt-suc, suc-mul, two-mul}
use native.Mathlib.Omega.{arith, compare-eq, compare-gt, compare-lt}
use mathlib.Core.Bool.{Bool, true, false, cond}
use borrow.Author.Tests.{lt-ltb}
use lib.IntN.{ℤ}
use lib.Arith.{digits_div, digits_mod}
use lib.Dec.{T, eqb, eqb→eq}
use lib.Pow.{pow-add, pow_pos, pow_mono, shl_lt}
use lib.Ieee.{Float, nearest, nan, inf, fin, binary64, up, down, size, odd, units, round, fits, root_below, root_twice, sqrt}
use lib.Ieee.Digits.{size-le}
use lib.Ieee.Exact.{odd_sign}
use lib.Ieee.Fits.{odd-fits, round_is, down_pos}
use lib.Ieee.Nearest.{closest, closest_same, div_same}
use lib.Ieee.Root.{whole_part}
use Rattle.numbers.specs.Value.{units_in}
use Rattle.numbers.specs.Root.{whole_root, root_of_units, root_of}
use Rattle.numbers.proofs.Values.{value_unique, zero_exp}
use Rattle.numbers.proofs.Units.{digits, units_exact, below_top, few_zeros}
use Rattle.numbers.proofs.WholeRoot.{IsRoot, whole_root_ok, at_least, less_than}
use Rattle.numbers.proofs.RootPattern.{size_gt, bounds, root_at}
use Rattle.numbers.proofs.RootNearest.{even_square}
use Rattle.numbers.proofs.Midpoints.{Scaled, scaled, odd_square}

-- ---- on plain numbers: q is the whole root of p, an even number, and r that of p * (C * C)
abbrev sharp : ℕ → ℕ → ℕ
sharp r n = 2 * r + cond (eqb (r * r) n) 0 1

sharp_low : (r n : ℕ) → 2 * r ≤ sharp r n
sharp_low r n = omega arith

sharp_high : (r n : ℕ) → sharp r n ≤ 2 * r + 1
sharp_high r n = go (eqb (r * r) n)
  where
    go : (b : Bool) → 2 * r + cond b 0 1 ≤ 2 * r + 1
    go true = omega arith
    go false = omega arith

sharp_even : (r n : ℕ) → sharp r n ≡ 2 * r → r * r ≡ n
sharp_even r n = go (eqb (r * r) n) (eqb→eq (r * r) n)
  where
    go : (b : Bool) → (T b → r * r ≡ n) → 2 * r + cond b 0 1 ≡ 2 * r → r * r ≡ n
    go true h e = h tt
    go false h e = absurd (omega arith)

-- ---- n / u, rounded to the nearest whole number
nearest_down : (a b q : ℕ) → a < b → nearest q (compare a b) ≡ q
nearest_down a b q h = go (compare a b) (compare-eq a b) (compare-gt a b)
  where
    go : (o : Ordering) → (o ≡ Ordering.eq → a ≡ b) → (o ≡ Ordering.gt → b < a) → nearest q o ≡ q
    go Ordering.lt e g = refl
    go Ordering.eq e g = absurd (omega (arith, e refl))
    go Ordering.gt e g = absurd (omega (arith, g refl))

nearest_up : (a b q : ℕ) → b < a → nearest q (compare a b) ≡ q + 1
nearest_up a b q h = go (compare a b) (compare-eq a b) (compare-lt a b)
  where
    go : (o : Ordering) → (o ≡ Ordering.eq → a ≡ b) → (o ≡ Ordering.lt → a < b) → nearest q o ≡ q + 1
    go Ordering.lt e g = absurd (omega (arith, g refl))
    go Ordering.eq e g = absurd (omega (arith, e refl))
    go Ordering.gt e g = omega arith

-- n lies between q and q + 1 halves of u = 2 * D, and above q halves where q is odd
module _ (n D q : ℕ) (from : q * D ≤ n) (below : n < q * D + D) (tie : q % 2 ≡ 1 → q * D < n) where
  at : (h r : ℕ) → n ≡ h * (2 * D) + r → r < 2 * D → closest n (2 * D) ≡ nearest h (compare (r * 2) (2 * D))
  at h r e l =
      let d : n / (2 * D) ≡ h = ap (λ (k : ℕ). k / (2 * D)) e ∙ digits_div h l in
      let m : n % (2 * D) ≡ r = ap (λ (k : ℕ). k % (2 * D)) e ∙ digits_mod h l in
      λ i. nearest (d i) (compare (m i * 2) (2 * D))

  halves : (h o : ℕ) → q ≡ h * 2 + o → q * D ≡ h * (2 * D) + o * D
  halves h o e = ap (λ (x : ℕ). x * D) e ∙ omega arith

  settled : (o : ℕ) → q % 2 ≡ o → closest n (2 * D) ≡ (q + 1) / 2
  settled zero z =
      let h = q / 2 in
      let e = halves h 0 (omega arith) in
      let r = n - q * D in
      at h r (omega arith) (omega arith) ∙ nearest_down (r * 2) (2 * D) h (omega arith) ∙ omega arith
  settled (suc zero) z =
      let h = q / 2 in
      let e = halves h 1 (omega arith) in
      let t = tie z in
      let r = n - h * (2 * D) in
      at h r (omega arith) (omega arith) ∙ nearest_up (r * 2) (2 * D) h (omega arith) ∙ omega arith
  settled (suc (suc o)) z = absurd (omega arith)

  halved : closest n (2 * D) ≡ (q + 1) / 2
  halved = settled (q % 2) refl

-- ---- r is the whole root of p * (C * C), with q that of p, which is even
module _ (p q C r : ℕ) (even : p % 2 ≡ 0) (Q : IsRoot p q) (R : IsRoot (p * (C * C)) r) (CP : 0 < C) where
  sharp_from : q * (2 * C) ≤ sharp r (p * (C * C))
  sharp_from =
      let a : q * C ≤ r = at_least (p * (C * C)) (q * C) r (le_trans (le_of_eq (mul-mul-mul_comm q C q C)) (mul-le-mul_right (C * C) Q.0)) R in
      omega (arith, sharp_low r (p * (C * C)))

  sharp_below : sharp r (p * (C * C)) < q * (2 * C) + 2 * C
  sharp_below =
      let b : r < (q + 1) * C = less_than (p * (C * C)) ((q + 1) * C) r (lt_of_lt_of_le (mul-lt-mul_of_pos_right Q.1 (mul-pos CP CP)) (le_of_eq (sym (mul-mul-mul_comm (q + 1) C (q + 1) C)))) R in
      omega (arith, sharp_high r (p * (C * C)))

  sharp_tie : q % 2 ≡ 1 → q * (2 * C) < sharp r (p * (C * C))
  sharp_tie o = lib.Arith.lt_of_le-ne sharp_from no
    where
      no : q * (2 * C) ≡ sharp r (p * (C * C)) → ⊥
      no e =
          let a : q * C ≤ r = at_least (p * (C * C)) (q * C) r (le_trans (le_of_eq (mul-mul-mul_comm q C q C)) (mul-le-mul_right (C * C) Q.0)) R in
          let l = sharp_low r (p * (C * C)) in
          let i : r ≡ q * C = omega arith in
          let s : r * r ≡ p * (C * C) = sharp_even r (p * (C * C)) (omega arith) in
          let k : q * q * (C * C) ≡ p * (C * C) = sym (mul-mul-mul_comm q C q C) ∙ ap (λ (x : ℕ). x * x) (sym i) ∙ s in
          odd_square q p o even (eq_of_mul-eq-mul_right (C * C) (mul-pos CP CP) (q * q) p k)

-- ---- num / 2 ^ 2272, in units num / W, lies between q and q + 1 halves of a step of 2 ^ (j + 1) units
step : (W j : ℕ) → W * 2 ^ (j + 1) ≡ 2 * (W * 2 ^ j)
step W j = ap (λ (x : ℕ). W * x) (pow-add 2 j 1) ∙ omega arith

module _ (num q j W : ℕ) (L : 2 ^ 1074 * W ≡ 2 ^ 2272) (WP : 0 < W) (lo : 2 ^ 53 ≤ q) (hi : q < 2 ^ 54 - 1) (J : j ≤ 2000) where
  module _ (from : q * (W * 2 ^ j) ≤ num) (below : num < q * (W * 2 ^ j) + W * 2 ^ j) (tie : q % 2 ≡ 1 → q * (W * 2 ^ j) < num) where
    in_units : num * 2 ^ 1074 / 2 ^ 2272 ≡ num / W
    in_units = div_same (num * 2 ^ 1074) (2 ^ 2272) num W (pow_pos 2272) WP (mul_assoc num (2 ^ 1074) W ∙ ap (λ (x : ℕ). num * x) L)

    low : 2 ^ (53 + j) ≤ num / W
    low = (le-div_iff_mul-le WP).1 (le_trans (le_of_eq (ap (λ (x : ℕ). x * W) (pow-add 2 53 j) ∙ mul_assoc (2 ^ 53) (2 ^ j) W ∙ ap (λ (x : ℕ). 2 ^ 53 * x) (mul_comm (2 ^ j) W))) (le_trans (mul-le-mul_right (W * 2 ^ j) lo) from))

    top : q * (W * 2 ^ j) + W * 2 ^ j ≤ 2 ^ 54 * (W * 2 ^ j)
    top = le_trans (le_of_eq (sym (suc-mul q (W * 2 ^ j)))) (mul-le-mul_right {m = suc q} {n = 2 ^ 54} (W * 2 ^ j) (omega arith))

    high : num / W < 2 ^ (54 + j)
    high = (div-lt_iff_lt-mul WP).1 (lt_of_lt_of_le below (le_trans top (le_of_eq (ap (λ (x : ℕ). 2 ^ 54 * x) (mul_comm W (2 ^ j)) ∙ sym (mul_assoc (2 ^ 54) (2 ^ j) W) ∙ ap (λ (x : ℕ). x * W) (sym (pow-add 2 54 j))))))

    dropped : size (num * 2 ^ 1074 / 2 ^ 2272) - 53 ≡ j + 1
    dropped =
        let a : 53 + j < size (num / W) = size_gt (num / W) (53 + j) low in
        let b : size (num / W) ≤ 54 + j = size-le (num / W) (54 + j) high in
        ap (λ (x : ℕ). size x - 53) in_units ∙ omega arith

    kept : closest (num * 2 ^ 1074) (2 ^ 2272 * 2 ^ (j + 1)) ≡ (q + 1) / 2
    kept =
        closest_same (num * 2 ^ 1074) (2 ^ 2272 * 2 ^ (j + 1)) num (W * 2 ^ (j + 1)) (mul-pos (pow_pos 2272) (pow_pos (j + 1))) (mul-pos WP (pow_pos (j + 1)))
        (mul_assoc num (2 ^ 1074) (W * 2 ^ (j + 1)) ∙ ap (λ (x : ℕ). num * x) (sym (mul_assoc (2 ^ 1074) W (2 ^ (j + 1))) ∙ ap (λ (x : ℕ). x * 2 ^ (j + 1)) L))
        ∙ ap (closest num) (step W j)
        ∙ halved num (W * 2 ^ j) q from below tie

    few : (q + 1) / 2 < 2 ^ 53
    few = omega arith

    small : (q + 1) / 2 * 2 ^ (j + 1) < 2 ^ 2098
    small =
        let s : 53 + (j + 1) ≤ 2098 = omega arith in
        lt_of_lt_of_le (shl_lt 53 (j + 1) few) (pow_mono s)

    written : units binary64 false ((q + 1) / 2) (j + 1) ≡ odd 53 false ((q + 1) / 2) (j + 1) 1074
    unfolding units
    written =
        let r = (q + 1) / 2 in
        let k = j + 1 in
        let few' : r < 2 ^ 54 = omega (arith, few) in
        ap (λ (b : Bool). cond b (odd 54 false r k 1074) (inf false)) (lt-ltb (r * 2 ^ k) (2 ^ 2098) small)
        ∙ value_unique binary64 (odd 54 false r k 1074) (odd 53 false r k 1074) false (r * 2 ^ k) (2 ^ 1074) (pow_pos 1074)
        (odd-fits binary64 54 false r k few' (le_of_lt few) small)
        (odd-fits binary64 53 false r k few (le_of_lt few) small)
        (odd_sign 54 false r k 1074) (odd_sign 53 false r k 1074)

    rounded : round binary64 false num (2 ^ 2272) ≡ odd 53 false ((q + 1) / 2) (j + 1) 1074
    rounded =
        round_is binary64 false num (2 ^ 2272)
        ∙ ap (λ (k : ℕ). units binary64 false (closest (num * 2 ^ 1074) (2 ^ 2272 * 2 ^ k)) k) dropped
        ∙ ap (λ (x : ℕ). units binary64 false x (j + 1)) kept
        ∙ written

-- ---- an f64 above zero, of u units
-- 2 ^ 1197 is V
module _ (u V W : ℕ) (S : Scaled u) (VV : 2 ^ 2394 ≡ V * V) (VW : 2 * V ≡ W) (VP : 0 < V) (L : 2 ^ 1074 * W ≡ 2 ^ 2272) where
  abbrev p : ℕ
  p = S.M * 2 ^ 54

  abbrev q : ℕ
  q = whole_root p

  abbrev C : ℕ
  C = V * 2 ^ S.J

  squared : u * 2 ^ 3468 ≡ p * (C * C)
  squared =
      ap (λ (x : ℕ). u * x) (pow-add 2 1074 2394)
      ∙ sym (mul_assoc u (2 ^ 1074) (2 ^ 2394))
      ∙ ap (λ (x : ℕ). x * 2 ^ 2394) S.is
      ∙ mul_assoc p (2 ^ (2 * S.J)) (2 ^ 2394)
      ∙ ap (λ (x : ℕ). p * (2 ^ (2 * S.J) * x)) VV
      ∙ ap (λ (x : ℕ). p * (x * (V * V))) (ap (λ (x : ℕ). 2 ^ x) (two-mul S.J) ∙ pow-add 2 S.J S.J)
      ∙ ap (λ (x : ℕ). p * x) (mul-mul-mul_comm (2 ^ S.J) (2 ^ S.J) V V ∙ ap (λ (x : ℕ). x * x) (mul_comm (2 ^ S.J) V))

  twice : 2 * C ≡ W * 2 ^ S.J
  twice = sym (mul_assoc 2 V (2 ^ S.J)) ∙ ap (λ (x : ℕ). x * 2 ^ S.J) VW

  WP : 0 < W
  WP = omega arith

  sharp_root : (r : ℕ) → IsRoot (p * (C * C)) r → round binary64 false (sharp r (p * (C * C))) (2 ^ 2272) ≡ root_of_units u
  sharp_root r R =
      let Q : IsRoot p q = whole_root_ok p in
      let B = bounds S.M q S.low S.high Q in
      let CP : 0 < C = mul-pos VP (pow_pos S.J) in
      let E : p % 2 ≡ 0 = even_square S.M in
      let num = sharp r (p * (C * C)) in
      rounded num q S.J W L WP B.0 B.1 S.most
      (rw twice at (sharp_from p q C r E Q R CP))
      (rw twice at (sharp_below p q C r E Q R CP))
      (rw twice at (sharp_tie p q C r E Q R CP))
      ∙ sym (root_at u p S.J S.is (omega (arith, S.low)) (omega (arith, S.high)))

  taken : (Z : ℕ) → Z ≡ u * 2 ^ 3468 → round binary64 false (root_twice Z) (2 ^ 2272) ≡ root_of_units u
  unfolding root_twice
  taken Z e = let z : Z ≡ p * (C * C) = e ∙ squared in rw z (sharp_root (root_below (size (p * (C * C))) (p * (C * C))) (whole_part (p * (C * C))))

above : (m : ℕ) (e : ℤ) → T (fits binary64 (fin false (suc m) e)) → sqrt binary64 (fin false (suc m) e) ≡ root_of_units (units_in (fin false (suc m) e))
unfolding sqrt
above m e f =
    let x = fin false (suc m) e in
    let u = units_in x in
    let d = digits false (suc m) e f in
    let j : d.k ≤ 2097 = few_zeros (suc m) d.k (zero-lt-suc m) (rw d.is at (below_top false (suc m) e f)) in
    let S : Scaled u = rw d.is (scaled (suc m) d.k (zero-lt-suc m) d.few j) in
    let a = suc m * up e in
    let i : a * 2 ^ 4542 / down e ≡ u * 2 ^ 3468 =
    ap (λ (y : ℕ). y / down e)
    (ap (λ (y : ℕ). a * y) (pow-add 2 1074 3468) ∙ sym (mul_assoc a (2 ^ 1074) (2 ^ 3468)) ∙ ap (λ (y : ℕ). y * 2 ^ 3468) (units_exact false (suc m) e f).1 ∙ mul_right_comm u (down e) (2 ^ 3468))
    ∙ mul-div_cancel (u * 2 ^ 3468) (down_pos e) in
    taken u (2 ^ 1197) (2 ^ 1198) S (pow-add 2 1197 1197) (sym (pow-add 2 1 1197)) (pow_pos 1197) (sym (pow-add 2 1074 1198)) (a * 2 ^ 4542 / down e) i

-- the library's square root is `root_of`
pub sqrt_root : (x : Float) → T (fits binary64 x) → sqrt binary64 x ≡ root_of x
unfolding sqrt root_of
sqrt_root nan f = refl
sqrt_root (inf false) f = refl
sqrt_root (inf true) f = refl
sqrt_root (fin s zero e) f = ap (fin s 0) (sym (zero_exp binary64 s e f))
sqrt_root (fin true (suc m) e) f = refl
sqrt_root (fin false (suc m) e) f = above m e f
