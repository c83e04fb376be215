-- `floor_of x` of a finite x is the one whole number c, with x's sign, that has ±c ≤ x < ±c + 1. Assumes nothing.
use mathlib.Core.Path.{◌≡◌, refl, sym, ap, ◌∙◌, subst}
use Prim.Native.Nat.{ℕ, zero, suc, ◌+◌, ◌*◌, ◌/◌, ◌%◌, ◌^◌, ◌≤◌, ◌<◌, zero-le}
use native.Mathlib.Nat.{le_trans, le_of_eq, le_antisymm, le_of_suc-le-suc, lt_of_lt_of_le, lt_of_le_of_lt, mul-one, mul_assoc, mul_comm, mul_right_comm}
use native.Mathlib.Nat.{suc-mul, add-mul, mul-le-mul_right, mul-lt-mul_of_pos_right, lt_of_mul-lt-mul_right, le_of_mul-le-mul_right, add-le-add, le_refl}
use native.Mathlib.Nat.{div-add-mod', div-one, mod-one, mod-lt, div-mul-le_self, div-le_self, zero-mul}
use native.Mathlib.Omega.{arith}
use mathlib.Core.Bool.{Bool, true, false, cond}
use lib.IntN.{ℤ, pos, negsuc}
use lib.Dec.{T, eqb, eqb→eq}
use lib.Pow.{pow-add, pow_pos}
use lib.Ieee.{Float, nan, inf, fin, binary64, up, down, round, fits}
use lib.Ieee.Fits.{down_pos, round-fits}
use lib.Ieee.Exact.{HasValue, round_exact}
use lib.Ieee.Back.{round_whole, whole_unique}
use borrow.Author.Tests.{eqb-false}
use Rattle.numbers.specs.Value.{units_in}
use Rattle.numbers.specs.Floor.{cut, floor_of, Within, Below}
use Rattle.numbers.proofs.Units.{digits_few, not_over, units_exact, units_of_lem}

-- ---- `floor_of` is exact: it is ±c, for c the size of x cut to a whole number
cut_le : (s : Bool) (a b : ℕ) → cut s a b ≤ a / b + 1
cut_le false a b = omega arith
cut_le true a b = go (eqb (a % b) 0)
  where
    go : (t : Bool) → cond t (a / b) (a / b + 1) ≤ a / b + 1
    go true = omega arith
    go false = omega arith

cut_one : (s : Bool) (a : ℕ) → cut s a 1 ≡ a
cut_one false a = div-one a
cut_one true a = ap (λ (r : ℕ). cond (eqb r 0) (a / 1) (a / 1 + 1)) (mod-one a) ∙ div-one a

few_more : (a m : ℕ) → a ≤ m → m < 2 ^ 53 → a + 1 ≤ 2 ^ 53
few_more a m h l = omega arith

value : (s : Bool) (m : ℕ) (e : ℤ) → T (fits binary64 (fin s m e)) → HasValue (round binary64 s (cut s (m * up e) (down e)) 1) s (cut s (m * up e) (down e)) 1
value s m (pos k) h =
    let c : cut s (m * 2 ^ k) 1 ≡ m * 2 ^ k = cut_one s (m * 2 ^ k) in
    let e : m * 2 ^ k * 2 ^ 1074 ≡ m * 2 ^ (k + 1074) = mul_assoc m (2 ^ k) (2 ^ 1074) ∙ ap (λ (x : ℕ). m * x) (sym (pow-add 2 k 1074)) in
    let o : m * 2 ^ k * 2 ^ 1074 < 2 ^ 1024 * 2 ^ 1074 = mul-lt-mul_of_pos_right (subst (λ (x : ℕ). m * 2 ^ k < x) (mul-one (2 ^ 1024)) (not_over s m (pos k) h)) (pow_pos 1074) in
    subst (λ (x : ℕ). HasValue (round binary64 s x 1) s x 1) (sym c)
    (round_exact binary64 s (m * 2 ^ k) 1 m (k + 1074) (omega arith) (digits_few s m (pos k) h)
    (subst (λ (x : ℕ). x < 2 ^ (1074 + 1024)) e (lt_of_lt_of_le o (le_of_eq (mul_comm (2 ^ 1024) (2 ^ 1074) ∙ sym (pow-add 2 1074 1024)))))
    (e ∙ sym (mul-one (m * 2 ^ (k + 1074)))))
value s m (negsuc k) h = round_whole binary64 s (cut s (m * 1) (2 ^ suc k)) (le_trans (cut_le s (m * 1) (2 ^ suc k)) (few_more (m * 1 / 2 ^ suc k) m (le_trans (div-le_self (m * 1) (2 ^ suc k)) (le_of_eq (mul-one m))) (digits_few s m (negsuc k) h)))

pub floor_is : (s : Bool) (m : ℕ) (e : ℤ) → floor_of (fin s m e) ≡ round binary64 s (cut s (m * up e) (down e)) 1
unfolding floor_of
floor_is s m e = refl

pub floor_value : (s : Bool) (m : ℕ) (e : ℤ) → T (fits binary64 (fin s m e)) → HasValue (floor_of (fin s m e)) s (cut s (m * up e) (down e)) 1
floor_value s m e h = rw (floor_is s m e) (value s m e h)

-- ---- ±c ≤ x < ±c + 1
-- c is a / b cut to a whole number
pub around : (s : Bool) (a b : ℕ) → 0 < b → cond s ((a ≤ cut s a b * b) × (cut s a b * b < a + b)) ((cut s a b * b ≤ a) × (a < cut s a b * b + b))
around false a b B = (div-mul-le_self a b, omega (arith, div-add-mod' a b, mod-lt a B))
around true a b B = go (eqb (a % b) 0) (eqb→eq (a % b) 0) (eqb-false (a % b) 0)
  where
    go : (t : Bool) → (T t → a % b ≡ 0) → (t ≡ false → a % b ≡ 0 → ⊥) → (a ≤ cond t (a / b) (a / b + 1) * b) × (cond t (a / b) (a / b + 1) * b < a + b)
    go true h k =
        let e = div-add-mod' a b in
        let z = h tt in
        (omega arith, omega arith)
    go false h k =
        let e = div-add-mod' a b in
        let l = mod-lt a B in
        let m = add-mul (a / b) 1 b in
        let n = k refl in
        (omega arith, omega arith)

-- x / b is u units of 1 / L, and y / b is v
module _ (x y u v b L : ℕ) (P : x * L ≡ u * b) (Q : y * L ≡ v * b) where
  units_le : 0 < b → x ≤ y → u ≤ v
  units_le B h = le_of_mul-le-mul_right (le_trans (le_of_eq (sym P)) (le_trans (mul-le-mul_right L h) (le_of_eq Q))) B

  units_lt : 0 < L → x < y → u < v
  units_lt l h = lt_of_mul-lt-mul_right b (lt_of_le_of_lt (le_of_eq (sym P)) (lt_of_lt_of_le (mul-lt-mul_of_pos_right h l) (le_of_eq Q)))

within : (s : Bool) (a b u : ℕ) → 0 < b → a * 2 ^ 1074 ≡ u * b → Within s (cut s a b) u
within s a b u B e = go s (cut s a b) (around s a b B)
  where
    one_more : (x v : ℕ) → x * 2 ^ 1074 ≡ v * b → (x + b) * 2 ^ 1074 ≡ (v + 2 ^ 1074) * b
    one_more x v p = add-mul x b (2 ^ 1074) ∙ ap (λ (n : ℕ). n + b * 2 ^ 1074) p ∙ ap (λ (n : ℕ). v * b + n) (mul_comm b (2 ^ 1074)) ∙ sym (add-mul v (2 ^ 1074) b)

    go : (s : Bool) (c : ℕ) → cond s ((a ≤ c * b) × (c * b < a + b)) ((c * b ≤ a) × (a < c * b + b)) → Within s c u
    go false c r =
        let f = mul_right_comm c b (2 ^ 1074) in (
          units_le (c * b) a (c * 2 ^ 1074) u b (2 ^ 1074) f e B r.0,
          units_lt a (c * b + b) u (c * 2 ^ 1074 + 2 ^ 1074) b (2 ^ 1074) e (one_more (c * b) (c * 2 ^ 1074) f) (pow_pos 1074) r.1,
        )
    go true c r =
        let f = mul_right_comm c b (2 ^ 1074) in (
          units_le a (c * b) u (c * 2 ^ 1074) b (2 ^ 1074) e f B r.0,
          units_lt (c * b) (a + b) (c * 2 ^ 1074) (u + 2 ^ 1074) b (2 ^ 1074) f (one_more a u e) (pow_pos 1074) r.1,
        )

pub below : (s : Bool) (m : ℕ) (e : ℤ) → T (fits binary64 (fin s m e)) → Below s (fin s m e) (floor_of (fin s m e))
below s m e h =
    let c = cut s (m * up e) (down e) in
    record {
      held = subst (λ (v : Float). T (fits binary64 v)) (sym (floor_is s m e)) (round-fits binary64 s c 1);
      c = c;
      whole = floor_value s m e h;
      within = within s (m * up e) (down e) (units_in (fin s m e)) (down_pos e) (units_exact s m e h).1;
    }

-- ---- only one whole number is so near
near : (c d L : ℕ) → c * L < d * L + L → c ≤ d
near c d L h = le_of_suc-le-suc (lt_of_mul-lt-mul_right L (lt_of_lt_of_le h (le_of_eq (sym (suc-mul d L)))))

within_unique : (s : Bool) (c d u : ℕ) → Within s c u → Within s d u → c ≡ d
within_unique false c d u p q = le_antisymm (near c d (2 ^ 1074) (lt_of_le_of_lt p.0 q.1)) (near d c (2 ^ 1074) (lt_of_le_of_lt q.0 p.1))
within_unique true c d u p q = le_antisymm (near c d (2 ^ 1074) (lt_of_lt_of_le p.1 (add-le-add q.0 (le_refl (2 ^ 1074))))) (near d c (2 ^ 1074) (lt_of_lt_of_le q.1 (add-le-add p.0 (le_refl (2 ^ 1074)))))

pub is_floor : (x r : Float) (s : Bool) (u c : ℕ) → T (fits binary64 x) → T (fits binary64 r) → HasValue x s u (2 ^ 1074) → HasValue r s c 1 → Within s c u → r ≡ floor_of x
is_floor nan r s u c f g v w h = absurd v
is_floor (inf t) r s u c f g v w h = absurd v
is_floor (fin t m e) r s u c f g v w h =
    let b = below t m e f in
    let h' : Within t c (units_in (fin t m e)) = rw (units_of_lem (fin t m e) s u v) (subst (λ (y : Bool). Within y c u) (sym v.0) h) in
    let i : b.c ≡ c = within_unique t b.c c (units_in (fin t m e)) b.within h' in
    whole_unique binary64 r (floor_of (fin t m e)) t c g b.held (subst (λ (y : Bool). HasValue r y c 1) (sym v.0) w) (subst (λ (y : ℕ). HasValue (floor_of (fin t m e)) t y 1) i b.whole)

pub kept_zero : (s : Bool) (e : ℤ) → T (fits binary64 (fin s zero e)) → floor_of (fin s zero e) ≡ fin s zero e
kept_zero s e h =
    sym
    (is_floor (fin s zero e) (fin s zero e) s 0 0 h h (refl, ap (λ (x : ℕ). x * 2 ^ 1074) (zero-mul (up e)) ∙ zero-mul (2 ^ 1074) ∙ sym (zero-mul (down e)))
    (refl, mul-one (0 * up e) ∙ zero-mul (up e) ∙ sym (zero-mul (down e))) (none s))
  where
    none : (s : Bool) → Within s 0 0
    none false = (zero-le, pow_pos 1074)
    none true = (zero-le, pow_pos 1074)
