-- What an f64 has above its floor: from the floor's f64, and that it lies from 0 to 1, 1 included. Assumes nothing.
use mathlib.Core.Path.{◌≡◌, refl, sym, ap, ◌∙◌, subst}
use Prim.Native.Nat.{ℕ, zero, suc, ◌+◌, ◌-◌, ◌*◌, ◌≤◌, ◌<◌, zero-le}
use native.Mathlib.Nat.{le_trans, le_of_eq, le_of_lt, zero-lt-suc, one-mul, mul-one, mul-pos, mul_right_comm, mul-le-mul_right, add-mul, zero-mul}
use native.Mathlib.Omega.{arith}
use mathlib.Core.Bool.{Bool, true, false, not, cond, true≢false}
use borrow.Author.Tests.{le-ltb}
use lib.IntN.{ℤ, pos, negsuc}
use lib.Dec.{T, ltb}
use lib.Pow.{pow_pos}
use lib.Ieee.{Float, nan, inf, fin, binary64, up, down, round, neg, sum, add, sub, le, eq, fits, of_int, of_bits}
use lib.Ieee.Fits.{down_pos, of_int-fits}
use lib.Ieee.Exact.{HasValue}
use lib.Ieee.Order.{round_mono}
use Rattle.numbers.specs.Arithmetic.{plus, minus, zero64, one64}
use Rattle.numbers.specs.Finite.{finite}
use Rattle.numbers.specs.Zeros.{unsigned, Alike}
use Rattle.numbers.specs.Floor.{cut, floor_of}
use Rattle.numbers.specs.Whole.{whole_of, fraction_of}
use Rattle.numbers.proofs.Values.{minus_is}
use Rattle.numbers.proofs.Zeros.{plus_zero_unsigned, alike_minus}
use Rattle.numbers.proofs.Comparisons.{equal_of_zero, alike_le}
use Rattle.numbers.proofs.Differences.{some_left}
use Rattle.numbers.proofs.FloorExact.{around, below, floor_value}
use Rattle.numbers.proofs.Wholes.{whole_alike, fraction_is}

-- ---- the f64 of an integer is never -0
unsigned_apart : (x : Float) → eq x zero64 ≡ false → unsigned x ≡ x
unsigned_apart nan h = refl
unsigned_apart (inf s) h = refl
unsigned_apart (fin s zero e) h = absurd (true≢false (sym (equal_of_zero s e) ∙ h))
unsigned_apart (fin s (suc m) e) h = refl

some_whole : (s : Bool) (k : ℕ) → unsigned (round binary64 s (suc k) 1) ≡ round binary64 s (suc k) 1
some_whole s k = unsigned_apart (round binary64 s (suc k) 1) (some_left s (suc k) 1 (zero-lt-suc 0) (mul-pos (zero-lt-suc k) (pow_pos 1074)))

int_unsigned : (z : ℤ) → unsigned (of_int binary64 z) ≡ of_int binary64 z
unfolding of_int
int_unsigned (pos zero) = unfold round in refl
int_unsigned (pos (suc k)) = some_whole false k
int_unsigned (negsuc k) = some_whole true k

floor_fits : (x : Float) → T (fits binary64 x) → T (finite x) → T (fits binary64 (floor_of x))
floor_fits nan f i = absurd i
floor_fits (inf s) f i = absurd i
floor_fits (fin s m e) f i = (below s m e f).held

-- so +0 added to the floor makes it the f64 of the integer
pub floor_cleared : (x : Float) → T (fits binary64 x) → T (finite x) → plus (floor_of x) zero64 ≡ of_int binary64 (whole_of x)
floor_cleared x f i =
    plus_zero_unsigned (floor_of x) (floor_fits x f i) ∙ sym (whole_alike x i) ∙ int_unsigned (whole_of x)

-- ---- what `fraction` answers
pub fraction_found : (x y : Float) → T (fits binary64 x) → finite x ≡ true → y ≡ floor_of x → minus x (plus y zero64) ≡ fraction_of x
fraction_found x y f i e = rw e (ap (minus x) (floor_cleared x f (subst T (sym i) tt)) ∙ sym (fraction_is x))

pub fraction_none : (x : Float) → finite x ≡ false → x ≡ fraction_of x
unfolding fraction_of whole_of sub add neg of_int round
fraction_none nan i = refl
fraction_none (inf s) i = refl
fraction_none (fin s m e) i = absurd (true≢false i)

-- ---- from 0 to 1
abbrev pub InUnit : Float → Type 0
InUnit t = T (le zero64 t) × T (le t one64)

least : round binary64 false 0 1 ≡ zero64
unfolding round of_bits
least = refl

most : round binary64 false 1 1 ≡ one64
unfolding round of_bits
most = refl

round_in_unit : (k c : ℕ) → 0 < c → k ≤ c → InUnit (round binary64 false k c)
round_in_unit k c C h = (
  rw (← least) (round_mono binary64 0 1 k c (zero-lt-suc 0) C (le_trans (le_of_eq (zero-mul c)) zero-le)),
  rw (← most) (round_mono binary64 k c 1 1 C (zero-lt-suc 0) (le_trans (le_of_eq (mul-one k)) (le_trans h (le_of_eq (sym (one-mul c)))))),
)

sum_in_unit : (s : Bool) (a b c : ℕ) → 0 < c → cond s ((a ≤ b) × (b ≤ a + c)) ((b ≤ a) × (a ≤ b + c)) → InUnit (sum binary64 s a (not s) b c)
unfolding sum
sum_in_unit false a b c C h = rw (le-ltb a b h.0) (round_in_unit (a - b) c C (omega arith))
sum_in_unit true a b c C h = go (ltb a b) refl
  where
    go : (p : Bool) → ltb a b ≡ p → InUnit (cond p (round binary64 false (b - a) c) (round binary64 (ltb b a) (a - b) c))
    go true k = round_in_unit (b - a) c C (omega arith)
    go false k = rw (le-ltb b a h.0) (round_in_unit (a - b) c C (omega arith))

-- c is within one of a / b, and so is n / d, which is c
near : (s : Bool) (a b c n d : ℕ) → n * 1 ≡ c * d → cond s ((a ≤ c * b) × (c * b < a + b)) ((c * b ≤ a) × (a < c * b + b))
    → cond s ((a * d ≤ n * b) × (n * b ≤ a * d + b * d)) ((n * b ≤ a * d) × (a * d ≤ n * b + b * d))
near s a b c n d e h = go s h
  where
    k : n * b ≡ c * b * d
    k = ap (λ (x : ℕ). x * b) (sym (mul-one n) ∙ e) ∙ mul_right_comm c d b

    go : (s : Bool) → cond s ((a ≤ c * b) × (c * b < a + b)) ((c * b ≤ a) × (a < c * b + b)) → cond s ((a * d ≤ n * b) × (n * b ≤ a * d + b * d)) ((n * b ≤ a * d) × (a * d ≤ n * b + b * d))
    go false h = rw k (mul-le-mul_right d h.0, le_trans (mul-le-mul_right d (le_of_lt h.1)) (le_of_eq (add-mul (c * b) b d)))
    go true h = rw k (mul-le-mul_right d h.0, le_trans (mul-le-mul_right d (le_of_lt h.1)) (le_of_eq (add-mul a b d)))

minus_in_unit : (s : Bool) (m : ℕ) (e : ℤ) (r : Float) → HasValue r s (cut s (m * up e) (down e)) 1 → InUnit (minus (fin s m e) r)
minus_in_unit s m e nan v = absurd v
minus_in_unit s m e (inf t) v = absurd v
minus_in_unit s m e (fin t n d) v =
    rw (v.0, minus_is s m e s n d)
    (sum_in_unit s (m * up e * down d) (n * up d * down e) (down e * down d) (mul-pos (down_pos e) (down_pos d))
    (near s (m * up e) (down e) (cut s (m * up e) (down e)) (n * up d) (down d) v.1 (around s (m * up e) (down e) (down_pos e))))

pub fraction_in_unit : (x : Float) → T (fits binary64 x) → T (finite x) → InUnit (fraction_of x)
fraction_in_unit nan f i = absurd i
fraction_in_unit (inf s) f i = absurd i
fraction_in_unit (fin s m e) f i =
    let x = fin s m e in
    let y = of_int binary64 (whole_of x) in
    let u = minus_in_unit s m e (floor_of x) (floor_value s m e f) in
    let a : Alike (minus x (floor_of x)) (fraction_of x) =
    alike_minus x x (floor_of x) y f f (floor_fits x f i) (of_int-fits binary64 (whole_of x)) refl (sym (whole_alike x i)) ∙ ap unsigned (sym (fraction_is x)) in
    (subst T (alike_le zero64 zero64 (minus x (floor_of x)) (fraction_of x) refl a) u.0, subst T (alike_le (minus x (floor_of x)) (fraction_of x) one64 one64 a refl) u.1)
