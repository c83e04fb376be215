-- Comparisons do not see the sign of a zero, and `==` says of two values that fit that they are alike. Assumes nothing.
use mathlib.Core.Path.{◌≡◌, refl, sym, ap, ◌∙◌}
use Prim.Native.Nat.{ℕ, zero, suc, ◌*◌, ◌<◌, zero-le}
use native.Mathlib.Nat.{lt_irrefl, zero-lt-suc, zero-mul, zero-add, add-zero, mul-pos}
use native.Mathlib.Omega.{arith}
use mathlib.Core.Bool.{Bool, true, false, ◌&&◌, ◌||◌, beq, true≢false, false≢true}
use borrow.Author.Tests.{le-ltb, eq-eqb, eqb-true, ne_eqb}
use lib.Dec.{T, ltb, eqb}
use lib.IntN.{ℤ, pos}
use lib.Ieee.{Float, nan, inf, fin, binary64, up, down, below, level, lt, le, eq, fits, of_bits}
use lib.Ieee.Fits.{up_pos, down_pos}
use lib.Ieee.Bits.{of_bits-fits}
use Rattle.numbers.specs.Arithmetic.{zero64}
use Rattle.numbers.specs.Finite.{finite}
use Rattle.numbers.specs.Zeros.{unsigned, Alike}
use Rattle.numbers.proofs.Values.{value_unique, zero_exp}

-- ---- a zero's sign on either side
level_left : (s t : Bool) (b : ℕ) → level s 0 t b ≡ level false 0 t b
level_left true true b = refl
level_left true false b = refl
level_left false t b = refl

level_right : (s t : Bool) (a : ℕ) → level s a t 0 ≡ level s a false 0
level_right s t a = go (eqb a 0) (beq s t) (beq s false)
  where
    go : (p q r : Bool) → p && (q || p) ≡ p && (r || p)
    go true true true = refl
    go true true false = refl
    go true false true = refl
    go true false false = refl
    go false q r = refl

below_left : (s t : Bool) (b : ℕ) → below s 0 t b ≡ below false 0 t b
below_left true true b = le-ltb b 0 zero-le
below_left true false b = ap (ltb 0) (zero-add b)
below_left false t b = refl

below_right : (s t : Bool) (a : ℕ) → below s a t 0 ≡ below s a false 0
below_right true true a = ap (ltb 0) (sym (add-zero a))
below_right false true a = sym (le-ltb a 0 zero-le)
below_right s false a = refl

nothing : (e d : ℤ) → 0 * up e * down d ≡ 0
nothing e d = ap (λ (x : ℕ). x * down d) (zero-mul (up e)) ∙ zero-mul (down d)

-- ---- `==` and `<` of two values are those of the values without a zero's sign
module _ (s : Bool) (e : ℤ) where
  eq_zero_left : (y : Float) → eq (fin s 0 e) y ≡ eq (fin false 0 e) y
  unfolding eq
  eq_zero_left nan = refl
  eq_zero_left (inf t) = refl
  eq_zero_left (fin t n d) = rw (nothing e d) (level_left s t (n * up d * down e))

  eq_zero_right : (x : Float) → eq x (fin s 0 e) ≡ eq x (fin false 0 e)
  unfolding eq
  eq_zero_right nan = refl
  eq_zero_right (inf t) = refl
  eq_zero_right (fin t n d) = rw (nothing e d) (level_right t s (n * up d * down e))

  lt_zero_left : (y : Float) → lt (fin s 0 e) y ≡ lt (fin false 0 e) y
  unfolding lt
  lt_zero_left nan = refl
  lt_zero_left (inf t) = refl
  lt_zero_left (fin t n d) = rw (nothing e d) (below_left s t (n * up d * down e))

  lt_zero_right : (x : Float) → lt x (fin s 0 e) ≡ lt x (fin false 0 e)
  unfolding lt
  lt_zero_right nan = refl
  lt_zero_right (inf t) = refl
  lt_zero_right (fin t n d) = rw (nothing e d) (below_right t s (n * up d * down e))

-- a test of two values that does not see a zero's sign on either side sees none
unseen : {A : Type 0} (p : Float → Float → A) → ((s : Bool) (e : ℤ) (y : Float) → p (fin s 0 e) y ≡ p (fin false 0 e) y) → ((s : Bool) (e : ℤ) (x : Float) → p x (fin s 0 e) ≡ p x (fin false 0 e)) → (x y : Float) → p x y ≡ p (unsigned x) (unsigned y)
unseen p l r x y = first x ∙ second y
  where
    first : (x : Float) → p x y ≡ p (unsigned x) y
    first nan = refl
    first (inf s) = refl
    first (fin s zero e) = l s e y
    first (fin s (suc m) e) = refl

    second : (y : Float) → p (unsigned x) y ≡ p (unsigned x) (unsigned y)
    second nan = refl
    second (inf s) = refl
    second (fin s zero e) = r s e (unsigned x)
    second (fin s (suc m) e) = refl

pub eq_unsigned : (x y : Float) → eq x y ≡ eq (unsigned x) (unsigned y)
eq_unsigned = unseen eq eq_zero_left eq_zero_right

pub lt_unsigned : (x y : Float) → lt x y ≡ lt (unsigned x) (unsigned y)
lt_unsigned = unseen lt lt_zero_left lt_zero_right

pub alike_eq : (x x' y y' : Float) → Alike x x' → Alike y y' → eq x y ≡ eq x' y'
alike_eq x x' y y' e f = cc (eq_unsigned x y, eq_unsigned x' y')

pub alike_lt : (x x' y y' : Float) → Alike x x' → Alike y y' → lt x y ≡ lt x' y'
alike_lt x x' y y' e f = cc (lt_unsigned x y, lt_unsigned x' y')

pub alike_le : (x x' y y' : Float) → Alike x x' → Alike y y' → le x y ≡ le x' y'
unfolding le
alike_le x x' y y' e f = cc (alike_lt x x' y y' e f, alike_eq x x' y y' e f)

-- ---- finite values that are alike are equal to `==`
beq_self : (s b : Bool) → beq s s || b ≡ true
beq_self true b = refl
beq_self false b = refl

self : (x : Float) → T (finite x) → eq x x ≡ true
unfolding eq
self nan h = absurd h
self (inf s) h = absurd h
self (fin s m e) h = let a = m * up e * down e in rw (eq-eqb a a refl, beq_self s (eqb a 0))

pub equal_of_alike : (x y : Float) → T (finite x) → Alike x y → eq x y ≡ true
equal_of_alike x y h e = alike_eq x x y x refl (sym e) ∙ self x h

-- ---- and values that fit and are equal to `==` are alike
pub both : (p q : Bool) → p && q ≡ true → (p ≡ true) × (q ≡ true)
both true true h = (refl, refl)
both true false h = (refl, h)
both false q h = absurd (false≢true h)

same_sign : (s t q : Bool) → beq s t || q ≡ true → q ≡ false → t ≡ s
same_sign true true q h k = refl
same_sign false false q h k = refl
same_sign true false q h k = absurd (true≢false (sym h ∙ k))
same_sign false true q h k = absurd (true≢false (sym h ∙ k))

some : (m : ℕ) (e d : ℤ) → 0 < suc m * up e * down d
some m e d = mul-pos (mul-pos (zero-lt-suc m) (up_pos e)) (down_pos d)

pub alike_of_equal : (x y : Float) → T (fits binary64 x) → T (fits binary64 y) → eq x y ≡ true → Alike x y
unfolding eq
alike_of_equal nan y f g h = absurd (false≢true h)
alike_of_equal (inf s) nan f g h = absurd (false≢true h)
alike_of_equal (inf true) (inf true) f g h = refl
alike_of_equal (inf true) (inf false) f g h = absurd (false≢true h)
alike_of_equal (inf false) (inf true) f g h = absurd (false≢true h)
alike_of_equal (inf false) (inf false) f g h = refl
alike_of_equal (inf s) (fin t n d) f g h = absurd (false≢true h)
alike_of_equal (fin s m e) nan f g h = absurd (false≢true h)
alike_of_equal (fin s m e) (inf t) f g h = absurd (false≢true h)
alike_of_equal (fin s zero e) (fin t zero d) f g h = ap (fin false 0) (zero_exp binary64 s e f ∙ sym (zero_exp binary64 t d g))
alike_of_equal (fin s zero e) (fin t (suc n) d) f g h =
    let a = 0 * up e * down d in
    let b = suc n * up d * down e in
    let k = eqb-true a b (both (eqb a b) (beq s t || eqb a 0) h).0 in
    absurd (lt_irrefl 0 (rw (sym k ∙ nothing e d) at (some n d e)))
alike_of_equal (fin s (suc m) e) (fin t zero d) f g h =
    let a = suc m * up e * down d in
    let b = 0 * up d * down e in
    let k = eqb-true a b (both (eqb a b) (beq s t || eqb a 0) h).0 in
    absurd (lt_irrefl 0 (rw (k ∙ nothing d e) at (some m e d)))
alike_of_equal (fin s (suc m) e) (fin t (suc n) d) f g h =
    let a = suc m * up e * down d in
    let b = suc n * up d * down e in
    let p = both (eqb a b) (beq s t || eqb a 0) h in
    let z : eqb a 0 ≡ false = ne_eqb a 0 (λ z. lt_irrefl 0 (rw z at (some m e d))) in
    ap unsigned (value_unique binary64 (fin s (suc m) e) (fin t (suc n) d) s (suc m * up e) (down e) (down_pos e) f g (refl, refl) (same_sign s t (eqb a 0) p.1 z, sym (eqb-true a b p.0)))

-- ---- a zero is equal to 0.0, and what is equal to 0.0 is a zero
pub equal_of_zero : (s : Bool) (e : ℤ) → eq (fin s 0 e) zero64 ≡ true
unfolding eq of_bits
equal_of_zero true e = rw (zero-mul (up e), zero-mul (down e))
equal_of_zero false e = rw (zero-mul (up e), zero-mul (down e))

zero_of_alike : (x : Float) → unsigned x ≡ fin false 0 (pos 0) → (s : Bool) × (x ≡ fin s 0 (pos 0))
zero_of_alike nan h = let z : ◌≡◌ {A = ℕ} 0 1 = cc in absurd (omega arith)
zero_of_alike (inf s) h = let z : ◌≡◌ {A = ℕ} 0 1 = cc in absurd (omega arith)
zero_of_alike (fin s zero e) h = (s, cc)
zero_of_alike (fin s (suc m) e) h = let z : suc m ≡ 0 = cc in absurd (omega arith)

pub zero_of_equal : (x : Float) → T (fits binary64 x) → eq x zero64 ≡ true → (s : Bool) × (x ≡ fin s 0 (pos 0))
unfolding of_bits
zero_of_equal x f h = zero_of_alike x (alike_of_equal x zero64 f (of_bits-fits binary64 0) h)
