-- Zeros and one in sums and products, and values that are equal but for the sign of a zero. Assumes nothing.
use mathlib.Core.Path.{◌≡◌, refl, sym, ap, ◌∙◌}
use Prim.Native.Nat.{ℕ, zero, suc, ◌-◌, ◌*◌, ◌<◌}
use native.Mathlib.Nat.{lt_irrefl, zero-lt-suc, zero-add, sub-zero, zero-mul, mul_comm, mul_assoc, mul_left_comm, mul-pos}
use mathlib.Core.Bool.{Bool, true, false, cond, ◌&&◌}
use lib.IntN.{ℤ, pos}
use lib.Dec.{T, ltb, leb-zero, leb-suc-suc}
use lib.Ieee.{Float, nan, inf, fin, Format, binary64, up, down, unlike, round, neg, sum, add, sub, mul, fits}
use lib.Ieee.Fits.{neg-fits, up_pos, down_pos}
use Rattle.numbers.specs.Arithmetic.{plus, minus, times, zero64, one64}
use Rattle.numbers.specs.Finite.{finite}
use Rattle.numbers.specs.Zeros.{unsigned, Alike}
use Rattle.numbers.proofs.Constants.{zero_is, one_is}
use Rattle.numbers.proofs.Values.{round_back, round_zero, zero_exp, add_is, mul_is}
use Rattle.numbers.proofs.Swaps.{plus_swap, times_swap, unlike_swap}

-- ---- ±0 + x and x + ±0, for an x that fits and is not zero
zero_sum : (f : Format) (s t : Bool) (b c : ℕ) → 0 < b → sum f s 0 t b c ≡ round f t b c
unfolding sum
zero_sum f true true b c h = ap (λ (x : ℕ). round f true x c) (zero-add b)
zero_sum f false false b c h = ap (λ (x : ℕ). round f false x c) (zero-add b)
zero_sum f true false zero c h = absurd (lt_irrefl 0 h)
zero_sum f false true zero c h = absurd (lt_irrefl 0 h)
zero_sum f true false (suc b) c h =
    ap (λ (x : Bool). cond x (round f false (suc b - 0) c) (round f (true && ltb (suc b) 0) (0 - suc b) c)) (leb-suc-suc 0 b ∙ leb-zero b) ∙ ap (λ (x : ℕ). round f false x c) (sub-zero (suc b))
zero_sum f false true (suc b) c h =
    ap (λ (x : Bool). cond x (round f true (suc b - 0) c) (round f (false && ltb (suc b) 0) (0 - suc b) c)) (leb-suc-suc 0 b ∙ leb-zero b) ∙ ap (λ (x : ℕ). round f true x c) (sub-zero (suc b))

pub zero_plus : (t s : Bool) (m : ℕ) (e : ℤ) → T (fits binary64 (fin s (suc m) e)) → plus (fin t 0 (pos 0)) (fin s (suc m) e) ≡ fin s (suc m) e
zero_plus t s m e h =
    let b = suc m * up e * 1 in
    let B : 0 < b = mul-pos (mul-pos (zero-lt-suc m) (up_pos e)) (zero-lt-suc 0) in
    let C : 0 < 1 * down e = mul-pos (zero-lt-suc 0) (down_pos e) in
    add_is binary64 t 0 (pos 0) s (suc m) e
    ∙ ap (λ (x : ℕ). sum binary64 t x s b (1 * down e)) (zero-mul (down e))
    ∙ zero_sum binary64 t s b (1 * down e) B
    ∙ round_back binary64 s m e b (1 * down e) h C (mul_assoc (suc m * up e) 1 (down e))

pub plus_zero : (s : Bool) (m : ℕ) (e : ℤ) (t : Bool) → T (fits binary64 (fin s (suc m) e)) → plus (fin s (suc m) e) (fin t 0 (pos 0)) ≡ fin s (suc m) e
plus_zero s m e t h = plus_swap (fin s (suc m) e) (fin t 0 (pos 0)) ∙ zero_plus t s m e h

-- ---- ±0 * x and x * ±0, for a finite x
pub zero_times : (t s : Bool) (m : ℕ) (e : ℤ) → times (fin t 0 (pos 0)) (fin s m e) ≡ fin (unlike t s) 0 (pos 0)
zero_times t s m e =
    mul_is binary64 t 0 (pos 0) s m e
    ∙ ap (λ (x : ℕ). round binary64 (unlike t s) x (1 * down e)) (zero-mul (m * up e))
    ∙ round_zero binary64 (unlike t s) (1 * down e) (mul-pos (zero-lt-suc 0) (down_pos e))

pub times_zero : (s : Bool) (m : ℕ) (e : ℤ) (t : Bool) → times (fin s m e) (fin t 0 (pos 0)) ≡ fin (unlike s t) 0 (pos 0)
times_zero s m e t = times_swap (fin s m e) (fin t 0 (pos 0)) ∙ zero_times t s m e ∙ ap (λ (u : Bool). fin u 0 (pos 0)) (unlike_swap t s)

-- ---- 1 * x and x * 1, for an x that fits
unlike_plus : (t : Bool) → unlike false t ≡ t
unlike_plus true = refl
unlike_plus false = refl

times_fin : (x : Float) → T (fits binary64 x) → times (fin false 1 (pos 0)) x ≡ x
unfolding mul
times_fin nan h = refl
times_fin (inf true) h = refl
times_fin (inf false) h = refl
times_fin (fin t zero d) h =
    mul_is binary64 false 1 (pos 0) t 0 d
    ∙ ap (λ (b : Bool). round binary64 b (1 * (0 * up d)) (1 * down d)) (unlike_plus t)
    ∙ ap (λ (x : ℕ). round binary64 t (1 * x) (1 * down d)) (zero-mul (up d))
    ∙ round_zero binary64 t (1 * down d) (mul-pos (zero-lt-suc 0) (down_pos d))
    ∙ ap (fin t 0) (sym (zero_exp binary64 t d h))
times_fin (fin t (suc n) d) h =
    mul_is binary64 false 1 (pos 0) t (suc n) d
    ∙ ap (λ (b : Bool). round binary64 b (1 * (suc n * up d)) (1 * down d)) (unlike_plus t)
    ∙ round_back binary64 t n d (1 * (suc n * up d)) (1 * down d) h (mul-pos (zero-lt-suc 0) (down_pos d)) (simp (mul_assoc, mul_comm, mul_left_comm))

pub one_times : (x : Float) → T (fits binary64 x) → times one64 x ≡ x
one_times x h = ap (λ (y : Float). times y x) one_is ∙ times_fin x h

pub times_one : (x : Float) → T (fits binary64 x) → times x one64 ≡ x
times_one x h = times_swap x one64 ∙ one_times x h

-- ---- `Alike` is an equivalence
pub alike_refl : (x : Float) → Alike x x
alike_refl x = refl

pub alike_sym : (x y : Float) → Alike x y → Alike y x
alike_sym x y e = sym e

pub alike_trans : (x y z : Float) → Alike x y → Alike y z → Alike x z
alike_trans x y z e f = e ∙ f

finite_unsigned : (x : Float) → finite (unsigned x) ≡ finite x
finite_unsigned nan = refl
finite_unsigned (inf s) = refl
finite_unsigned (fin s zero e) = refl
finite_unsigned (fin s (suc m) e) = refl

pub alike_finite : (x y : Float) → Alike x y → finite x ≡ finite y
alike_finite x y e = sym (finite_unsigned x) ∙ ap finite e ∙ finite_unsigned y

-- ---- sums of values that are alike are alike
two_zeros : (s t : Bool) → unsigned (plus (fin s 0 (pos 0)) (fin t 0 (pos 0))) ≡ fin false 0 (pos 0)
unfolding add
two_zeros true true = refl
two_zeros true false = refl
two_zeros false true = refl
two_zeros false false = refl

-- a zero added changes nothing but a zero's sign
pub zero_plus_alike : (s : Bool) (y : Float) → T (fits binary64 y) → Alike (plus (fin s 0 (pos 0)) y) y
unfolding add
zero_plus_alike s nan h = refl
zero_plus_alike s (inf t) h = refl
zero_plus_alike s (fin t zero e) h = ap (λ (z : ℤ). unsigned (plus (fin s 0 (pos 0)) (fin t 0 z))) (zero_exp binary64 t e h) ∙ two_zeros s t ∙ ap (fin false 0) (sym (zero_exp binary64 t e h))
zero_plus_alike s (fin t (suc n) e) h = ap unsigned (zero_plus s t n e h)

pub plus_zero_alike : (x : Float) (t : Bool) → T (fits binary64 x) → Alike (plus x (fin t 0 (pos 0))) x
plus_zero_alike x t h = ap unsigned (plus_swap x (fin t 0 (pos 0))) ∙ zero_plus_alike t x h

-- and 0.0 added clears a zero's sign
cleared : (x : Float) → T (fits binary64 x) → plus x (fin false 0 (pos 0)) ≡ unsigned x
unfolding add
cleared nan h = refl
cleared (inf s) h = refl
cleared (fin s zero e) h = ap (λ (z : ℤ). plus (fin s 0 z) (fin false 0 (pos 0))) (zero_exp binary64 s e h) ∙ positive s ∙ ap (fin false 0) (sym (zero_exp binary64 s e h))
  where
    positive : (s : Bool) → plus (fin s 0 (pos 0)) (fin false 0 (pos 0)) ≡ fin false 0 (pos 0)
    positive true = refl
    positive false = refl
cleared (fin s (suc m) e) h = plus_zero s m e false h

pub plus_zero_unsigned : (x : Float) → T (fits binary64 x) → plus x zero64 ≡ unsigned x
plus_zero_unsigned x h = ap (plus x) zero_is ∙ cleared x h

-- nor does a zero times a finite number, added, change more
pub idle_left : (y : Float) (t : Bool) (x : Float) → T (fits binary64 y) → T (finite x) → Alike (plus y (times (fin t 0 (pos 0)) x)) y
idle_left y t nan h k = absurd k
idle_left y t (inf s) h k = absurd k
idle_left y t (fin s m e) h k = ap (λ (z : Float). unsigned (plus y z)) (zero_times t s m e) ∙ plus_zero_alike y (unlike t s) h

pub idle_right : (y x : Float) (t : Bool) → T (fits binary64 y) → T (finite x) → Alike (plus y (times x (fin t 0 (pos 0)))) y
idle_right y x t h k = ap (λ (z : Float). unsigned (plus y z)) (times_swap x (fin t 0 (pos 0))) ∙ idle_left y t x h k

unsigned_plus : (x y : Float) → T (fits binary64 x) → T (fits binary64 y) → Alike (plus x y) (plus (unsigned x) y)
unsigned_plus nan y h k = refl
unsigned_plus (inf s) y h k = refl
unsigned_plus (fin s zero e) y h k =
    let z = zero_exp binary64 s e h in
    ap (λ (d : ℤ). unsigned (plus (fin s 0 d) y)) z ∙ zero_plus_alike s y k ∙ sym (ap (λ (d : ℤ). unsigned (plus (fin false 0 d) y)) z ∙ zero_plus_alike false y k)
unsigned_plus (fin s (suc m) e) y h k = refl

plus_left : (x x' y : Float) → T (fits binary64 x) → T (fits binary64 x') → T (fits binary64 y) → Alike x x' → Alike (plus x y) (plus x' y)
plus_left x x' y h h' k e = unsigned_plus x y h k ∙ ap (λ (z : Float). unsigned (plus z y)) e ∙ sym (unsigned_plus x' y h' k)

pub alike_plus : (x x' y y' : Float) → T (fits binary64 x) → T (fits binary64 x') → T (fits binary64 y) → T (fits binary64 y') → Alike x x' → Alike y y' → Alike (plus x y) (plus x' y')
alike_plus x x' y y' h h' k k' e f =
    plus_left x x' y h h' k e ∙ ap unsigned (plus_swap x' y) ∙ plus_left y y' x' k k' h' f ∙ ap unsigned (plus_swap y' x')

unsigned_neg : (x : Float) → Alike (neg x) (neg (unsigned x))
unfolding neg
unsigned_neg nan = refl
unsigned_neg (inf s) = refl
unsigned_neg (fin s zero e) = refl
unsigned_neg (fin s (suc m) e) = refl

pub alike_neg : (x y : Float) → Alike x y → Alike (neg x) (neg y)
alike_neg x y e = unsigned_neg x ∙ ap (λ (z : Float). unsigned (neg z)) e ∙ sym (unsigned_neg y)

pub alike_minus : (x x' y y' : Float) → T (fits binary64 x) → T (fits binary64 x') → T (fits binary64 y) → T (fits binary64 y') → Alike x x' → Alike y y' → Alike (minus x y) (minus x' y')
unfolding sub
alike_minus x x' y y' h h' k k' e f = alike_plus x x' (neg y) (neg y') h h' (neg-fits binary64 y k) (neg-fits binary64 y' k') e (alike_neg y y' f)

-- ---- and products
zero_times_alike : (s : Bool) (y : Float) → Alike (times (fin s 0 (pos 0)) y) (times (fin false 0 (pos 0)) y)
unfolding mul
zero_times_alike s nan = refl
zero_times_alike s (inf t) = refl
zero_times_alike s (fin t n d) = ap unsigned (zero_times s t n d) ∙ sym (ap unsigned (zero_times false t n d))

unsigned_times : (x y : Float) → T (fits binary64 x) → Alike (times x y) (times (unsigned x) y)
unsigned_times nan y h = refl
unsigned_times (inf s) y h = refl
unsigned_times (fin s zero e) y h =
    let z = zero_exp binary64 s e h in
    ap (λ (d : ℤ). unsigned (times (fin s 0 d) y)) z ∙ zero_times_alike s y ∙ sym (ap (λ (d : ℤ). unsigned (times (fin false 0 d) y)) z)
unsigned_times (fin s (suc m) e) y h = refl

times_left : (x x' y : Float) → T (fits binary64 x) → T (fits binary64 x') → Alike x x' → Alike (times x y) (times x' y)
times_left x x' y h h' e = unsigned_times x y h ∙ ap (λ (z : Float). unsigned (times z y)) e ∙ sym (unsigned_times x' y h')

pub alike_times : (x x' y y' : Float) → T (fits binary64 x) → T (fits binary64 x') → T (fits binary64 y) → T (fits binary64 y') → Alike x x' → Alike y y' → Alike (times x y) (times x' y')
alike_times x x' y y' h h' k k' e f = times_left x x' y h h' e ∙ ap unsigned (times_swap x' y) ∙ times_left y y' x' k k' f ∙ ap unsigned (times_swap y' x')
