-- A value that fits its format is settled by its sign and its size, and `round` gives it back. Assumes nothing.
use mathlib.Core.Path.{◌≡◌, refl, sym, ap, ◌∙◌}
use Prim.Native.Nat.{ℕ, zero, suc, ◌+◌, ◌-◌, ◌*◌, ◌/◌, ◌%◌, ◌^◌, ◌≤◌, ◌<◌}
use native.Mathlib.Nat.{le_of_eq, le_of_suc-le-suc, lt_of_lt_of_le, lt_of_le_of_lt, lt_of_not-le, not-le_of_lt, zero-lt-suc, zero-mul, mul-one, one-mul}
use native.Mathlib.Nat.{mul_comm, mul_assoc, mul_right_comm, pow-succ', mul-lt-mul_of_pos_right, lt_of_mul-lt-mul_right, eq_of_mul-eq-mul_right}
use native.Mathlib.Omega.{arith}
use mathlib.Core.Bool.{Bool, true, false, not, cond, ◌&&◌}
use lib.IntN.{ℤ, pos, negsuc}
use lib.Dec.{T, leb, ltb, eqb, leb→le, ltb→lt, eqb→eq}
use lib.Pow.{pow-add, pow_pos, pow-lt}
use lib.Ieee.{Float, nan, inf, fin, Format, binary32, binary64, prec, emax, low, up, down, unlike, size, odd, units, round, level, neg, sum, add, sub, mul, eq, fits, hid, top, to_bits, of_bits}
use lib.Ieee.Digits.{back}
use lib.Ieee.Fits.{round-fits, round_is, and_l, and_r, down_pos}
use lib.Ieee.Exact.{HasValue, round_exact}
use lib.Ieee.Nearest.{div_same}
use lib.Ieee.Order.{drop, kept}
use lib.Ieee.Scale.{round_same}
use lib.Ieee.Bits.{of_bits-to_bits}
use Rattle.numbers.specs.Arithmetic.{minus}

-- ---- a value that fits is settled by its sign and its size
bits_of : Format → Bool → ℕ → ℕ
bits_of f s n = cond s (top f) 0 + (size n - prec f) * hid f + n / 2 ^ (size n - prec f)

to_bits_is : (f : Format) (s : Bool) (m : ℕ) (e : ℤ) → to_bits f (fin s m e) ≡ bits_of f s (m * up e * 2 ^ low f / down e)
unfolding to_bits bits_of
to_bits_is f s m e = refl

cross : (x y a c d e l : ℕ) → 0 < c → x * c ≡ a * d → y * c ≡ a * e → x * l * e ≡ y * l * d
cross x y a c d e l C p q =
    let k : x * e * c ≡ y * d * c = mul_right_comm x e c ∙ ap (λ (z : ℕ). z * e) p ∙ mul_right_comm a d e ∙ ap (λ (z : ℕ). z * d) (sym q) ∙ mul_right_comm y c d in
    mul_right_comm x l e ∙ ap (λ (z : ℕ). z * l) (eq_of_mul-eq-mul_right c C (x * e) (y * d) k) ∙ mul_right_comm y d l

pub value_unique : (f : Format) (x y : Float) (s : Bool) (a c : ℕ) → 0 < c → T (fits f x) → T (fits f y) → HasValue x s a c → HasValue y s a c → x ≡ y
value_unique f nan y s a c C p q v w = absurd v
value_unique f (inf t) y s a c C p q v w = absurd v
value_unique f (fin t m e) nan s a c C p q v w = absurd w
value_unique f (fin t m e) (inf u) s a c C p q v w = absurd w
value_unique f (fin t m e) (fin u n d) s a c C p q v w =
    let k : m * up e * 2 ^ low f / down e ≡ n * up d * 2 ^ low f / down d =
    div_same (m * up e * 2 ^ low f) (down e) (n * up d * 2 ^ low f) (down d) (down_pos e) (down_pos d)
    (cross (m * up e) (n * up d) a c (down e) (down d) (2 ^ low f) C v.1 w.1) in
    sym (of_bits-to_bits f (fin t m e) p)
    ∙ ap (of_bits f) (to_bits_is f t m e ∙ ap (λ (b : Bool). bits_of f b (m * up e * 2 ^ low f / down e)) (v.0 ∙ sym w.0) ∙ ap (bits_of f u) k ∙ sym (to_bits_is f u n d))
    ∙ of_bits-to_bits f (fin u n d) q

-- ---- what fitting says
pub record Fit (f : Format) (m : ℕ) (e : ℤ) : Type 0 where
  pub small : m < 2 ^ prec f
  pub fine : down e ≤ 2 ^ low f
  pub under : m * up e < 2 ^ suc (emax f) * down e

pub fit : (f : Format) (s : Bool) (m : ℕ) (e : ℤ) → T (fits f (fin s (suc m) e)) → Fit f (suc m) e
unfolding fits
fit f s m e t =
    let a : Bool = eqb (suc m % 2) 1 in
    let b : Bool = ltb (suc m) (2 ^ prec f) in
    let c : Bool = leb (down e) (2 ^ low f) in
    let d : Bool = ltb (suc m * up e) (2 ^ suc (emax f) * down e) in
    let abc = and_l (a && b && c) d t in
    record { small = ltb→lt (suc m) (2 ^ prec f) (and_r a b (and_l (a && b) c abc)); fine = leb→le (down e) (2 ^ low f) (and_r (a && b) c abc); under = ltb→lt (suc m * up e) (2 ^ suc (emax f) * down e) (and_r (a && b && c) d t) }

pow_reflects : (i j : ℕ) → 2 ^ i ≤ 2 ^ j → i ≤ j
pow_reflects i j h = le_of_suc-le-suc (lt_of_not-le (λ (g : suc j ≤ i). not-le_of_lt (pow-lt g) h))

-- 2 ^ e is 2 ^ j of the format's smallest values
pub whole_units : (l : ℕ) (e : ℤ) → down e ≤ 2 ^ l → (j : ℕ) × (up e * 2 ^ l ≡ 2 ^ j * down e)
whole_units l (pos k) h = (k + l, sym (pow-add 2 k l) ∙ sym (mul-one (2 ^ (k + l))))
whole_units l (negsuc k) h = (l - suc k, one-mul (2 ^ l) ∙ ap (λ (x : ℕ). 2 ^ x) (sym (back l (suc k) (pow_reflects (suc k) l h))) ∙ pow-add 2 (l - suc k) (suc k))

-- ---- a value that fits, handed to `round` as any fraction, comes back
pub round_back : (f : Format) (s : Bool) (m : ℕ) (e : ℤ) (a c : ℕ) → T (fits f (fin s (suc m) e)) → 0 < c → a * down e ≡ suc m * up e * c → round f s a c ≡ fin s (suc m) e
round_back f s m e a c t C h =
    let F = fit f s m e t in
    let l = 2 ^ low f in
    let W = whole_units (low f) e F.fine in
    let j = W.0 in
    let q = suc m in
    let scaled : q * 2 ^ j * down e ≡ q * up e * l = mul_assoc q (2 ^ j) (down e) ∙ ap (λ (x : ℕ). q * x) (sym W.1) ∙ sym (mul_assoc q (up e) l) in
    let under : q * 2 ^ j < 2 ^ (low f + suc (emax f)) =
    lt_of_mul-lt-mul_right (down e)
    (lt_of_le_of_lt (le_of_eq scaled) (lt_of_lt_of_le (mul-lt-mul_of_pos_right F.under (pow_pos (low f)))
    (le_of_eq (mul_right_comm (2 ^ suc (emax f)) (down e) l ∙ ap (λ (x : ℕ). x * down e) (mul_comm (2 ^ suc (emax f)) l ∙ sym (pow-add 2 (low f) (suc (emax f)))))))) in
    let exact : a * l ≡ q * 2 ^ j * c = eq_of_mul-eq-mul_right (down e) (down_pos e) (a * l) (q * 2 ^ j * c)
    (mul_right_comm a l (down e) ∙ ap (λ (x : ℕ). x * l) h ∙ mul_right_comm (q * up e) c l ∙ ap (λ (x : ℕ). x * c) (sym scaled) ∙ mul_right_comm (q * 2 ^ j) (down e) c) in
    value_unique f (round f s a c) (fin s q e) s a c C (round-fits f s a c) t (round_exact f s a c q j C F.small under exact) (refl, sym h)

-- ---- zero
zero_over_one : (f : Format) (s : Bool) → round f s 0 1 ≡ fin s 0 (pos 0)
unfolding round
zero_over_one binary32 s = refl
zero_over_one binary64 s = refl

pub round_zero : (f : Format) (s : Bool) (c : ℕ) → 0 < c → round f s 0 c ≡ fin s 0 (pos 0)
round_zero f s c C = round_same f s 0 c 0 1 C (zero-lt-suc 0) (sym (zero-mul c)) ∙ zero_over_one f s

two_up : (p : ℕ) → 0 < p → 2 * p ≡ 1 → ⊥
two_up p h e = omega arith

flat : (e : ℤ) → up e * down e ≡ 1 → e ≡ pos 0
flat (pos zero) h = refl
flat (pos (suc k)) h = absurd (two_up (2 ^ k) (pow_pos k) (sym (pow-succ' 2 k) ∙ sym (mul-one (2 ^ suc k)) ∙ h))
flat (negsuc k) h = absurd (two_up (2 ^ k) (pow_pos k) (sym (pow-succ' 2 k) ∙ sym (one-mul (2 ^ suc k)) ∙ h))

-- a zero that fits is written with the exponent 0
pub zero_exp : (f : Format) (s : Bool) (e : ℤ) → T (fits f (fin s zero e)) → e ≡ pos 0
unfolding fits
zero_exp f s e t = flat e (eqb→eq (up e * down e) 1 t)

-- ---- signs
pub neg_is : (s : Bool) (m : ℕ) (e : ℤ) → neg (fin s m e) ≡ fin (not s) m e
unfolding neg
neg_is s m e = refl

pub neg_neg : (x : Float) → neg (neg x) ≡ x
unfolding neg
neg_neg nan = refl
neg_neg (inf true) = refl
neg_neg (inf false) = refl
neg_neg (fin true m e) = refl
neg_neg (fin false m e) = refl

odd_neg : (d q k l : ℕ) → odd d true q k l ≡ neg (odd d false q k l)
unfolding odd neg
odd_neg d zero k l = refl
odd_neg d (suc q) k l = refl

units_neg : (f : Format) (q k : ℕ) → units f true q k ≡ neg (units f false q k)
unfolding units neg
units_neg f q k = go (ltb (q * 2 ^ k) (2 ^ (low f + suc (emax f))))
  where
    go : (b : Bool) → cond b (odd (suc (prec f)) true q k (low f)) (inf true) ≡ neg (cond b (odd (suc (prec f)) false q k (low f)) (inf false))
    go true = odd_neg (suc (prec f)) q k (low f)
    go false = refl

-- the sign goes through `round`
pub round_neg : (f : Format) (a c : ℕ) → round f true a c ≡ neg (round f false a c)
round_neg f a c =
    round_is f true a c
    ∙ units_neg f (kept (prec f) (a * 2 ^ low f) c) (drop (prec f) (a * 2 ^ low f) c)
    ∙ ap neg (sym (round_is f false a c))

-- ---- the operations on two finite values
pub add_is : (f : Format) (s : Bool) (m : ℕ) (e : ℤ) (t : Bool) (n : ℕ) (d : ℤ) → add f (fin s m e) (fin t n d) ≡ sum f s (m * up e * down d) t (n * up d * down e) (down e * down d)
unfolding add
add_is f s m e t n d = refl

pub minus_is : (s : Bool) (m : ℕ) (e : ℤ) (t : Bool) (n : ℕ) (d : ℤ) → minus (fin s m e) (fin t n d) ≡ sum binary64 s (m * up e * down d) (not t) (n * up d * down e) (down e * down d)
unfolding sub add neg
minus_is s m e t n d = refl

pub mul_is : (f : Format) (s : Bool) (m : ℕ) (e : ℤ) (t : Bool) (n : ℕ) (d : ℤ) → mul f (fin s m e) (fin t n d) ≡ round f (unlike s t) (m * up e * (n * up d)) (down e * down d)
unfolding mul
mul_is f s m e t n d = refl

pub eq_is : (s : Bool) (m : ℕ) (e : ℤ) (t : Bool) (n : ℕ) (d : ℤ) → eq (fin s m e) (fin t n d) ≡ level s (m * up e * down d) t (n * up d * down e)
unfolding eq
eq_is s m e t n d = refl
