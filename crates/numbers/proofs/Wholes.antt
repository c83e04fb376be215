-- The floor as an integer: its f64 is the floor, zero signs aside, and where the fraction is zero it turns with the sign; else to 1 below. Assumes nothing.
use mathlib.Core.Path.{◌≡◌, refl, sym, ap, ◌∙◌}
use Prim.Native.Nat.{ℕ, zero, suc, ◌+◌, ◌*◌, ◌/◌, ◌%◌, ◌≤◌, zero-le}
use native.Mathlib.Nat.{add-zero, le_refl, mul-one, mul_right_comm, mul-mod_left, eq_of_mul-eq-mul_right}
use mathlib.Core.Logic.{◌⊎◌, inl, inr}
use mathlib.Core.Bool.{Bool, true, false, not, ◌||◌, cond, beq}
use borrow.Author.Tests.{eqb-true}
use lib.IntN.{ℤ, pos, negsuc, neg_ℤ, neg_ℤ-neg_ℤ}
use lib.Dec.{T, eqb}
use lib.Ieee.{Float, nan, inf, fin, binary64, up, down, round, neg, eq, fits, of_int}
use lib.Ieee.Exact.{HasValue}
use lib.Ieee.Fits.{down_pos, neg-fits, of_int-fits, sub-fits}
use Rattle.numbers.specs.Arithmetic.{minus, zero64}
use Rattle.numbers.specs.Finite.{finite}
use Rattle.numbers.specs.Zeros.{unsigned, Alike}
use Rattle.numbers.specs.Floor.{cut, floor_of}
use Rattle.numbers.specs.Whole.{signed, whole_of, fraction_of}
use Rattle.numbers.proofs.Values.{neg_is, neg_neg, round_neg}
use Rattle.numbers.proofs.Zeros.{alike_finite, alike_neg}
use Rattle.numbers.proofs.Comparisons.{alike_eq, alike_of_equal, equal_of_alike, zero_of_equal, both}
use Rattle.numbers.proofs.Differences.{equal_of_difference, difference_of_equal}
use Rattle.numbers.proofs.FloorExact.{floor_is, floor_value}

-- ---- `floor_of x` is the f64 of `whole_of x`, zero signs aside
pub whole_is : (s : Bool) (m : ℕ) (e : ℤ) → whole_of (fin s m e) ≡ signed s (cut s (m * up e) (down e))
unfolding whole_of
whole_is s m e = refl

pub floor_whole : (s : Bool) (m : ℕ) (e : ℤ) → T (fits binary64 (fin s m e)) → (c : ℕ) × (whole_of (fin s m e) ≡ signed s c) × HasValue (floor_of (fin s m e)) s c 1
floor_whole s m e h = (cut s (m * up e) (down e), whole_is s m e, floor_value s m e h)

signed_alike : (s : Bool) (c : ℕ) → Alike (of_int binary64 (signed s c)) (round binary64 s c 1)
unfolding of_int round
signed_alike false c = refl
signed_alike true zero = refl
signed_alike true (suc c) = refl

pub whole_alike : (x : Float) → T (finite x) → Alike (of_int binary64 (whole_of x)) (floor_of x)
whole_alike nan h = absurd h
whole_alike (inf s) h = absurd h
whole_alike (fin s m e) h = rw (whole_is s m e, floor_is s m e) (signed_alike s (cut s (m * up e) (down e)))

value_finite : (x : Float) (s : Bool) (a c : ℕ) → HasValue x s a c → T (finite x)
value_finite nan s a c v = v
value_finite (inf t) s a c v = v
value_finite (fin t m e) s a c v = tt

whole_finite : (s : Bool) (m : ℕ) (e : ℤ) → T (fits binary64 (fin s m e)) → T (finite (of_int binary64 (whole_of (fin s m e))))
whole_finite s m e h =
    let x = fin s m e in
    let f = floor_whole s m e h in
    rw (alike_finite (of_int binary64 (whole_of x)) (floor_of x) (whole_alike x tt)) (value_finite (floor_of x) s f.0 1 f.2)

-- ---- an integer and its negative
pub int_neg_alike : (z : ℤ) → Alike (of_int binary64 (neg_ℤ z)) (neg (of_int binary64 z))
unfolding of_int
int_neg_alike (pos zero) = unfold round neg in refl
int_neg_alike (pos (suc k)) = ap unsigned (round_neg binary64 (suc k) 1)
int_neg_alike (negsuc k) = ap unsigned (sym (neg_neg (round binary64 false (suc k) 1)) ∙ ap neg (sym (round_neg binary64 (suc k) 1)))

signed_not : (s : Bool) (c : ℕ) → signed (not s) c ≡ neg_ℤ (signed s c)
signed_not false c = refl
signed_not true c = sym (neg_ℤ-neg_ℤ (pos c))

-- ---- where the fraction is zero
cut_exact : (s : Bool) (a b : ℕ) → a % b ≡ 0 → cut s a b ≡ a / b
cut_exact false a b h = refl
cut_exact true a b h = rw h

same_size : (s : Bool) (m : ℕ) (e : ℤ) (r : Float) (t : Bool) (c : ℕ) → HasValue r t c 1 → eq (fin s m e) r ≡ true → m * up e ≡ c * down e
unfolding eq
same_size s m e nan t c v h = absurd v
same_size s m e (inf u) t c v h = absurd v
same_size s m e (fin u n d) t c v h =
    let a = m * up e * down d in
    let b = n * up d * down e in
    eq_of_mul-eq-mul_right (down d) (down_pos d) (m * up e) (c * down e)
    (eqb-true a b (both (eqb a b) (beq s u || eqb a 0) h).0 ∙ ap (λ (x : ℕ). x * down e) (sym (mul-one (n * up d)) ∙ v.1) ∙ mul_right_comm c (down d) (down e))

-- the floors of x and of -x: their sizes are the same, or that of the one below zero is 1 more
cut_away : (a b : ℕ) → (d : ℕ) × (d ≤ 1) × (cut true a b ≡ a / b + d)
cut_away a b = go (eqb (a % b) 0)
  where
    go : (p : Bool) → (d : ℕ) × (d ≤ 1) × (cond p (a / b) (a / b + 1) ≡ a / b + d)
    go true = (0, zero-le, sym (add-zero (a / b)))
    go false = (1, le_refl 1, refl)

pub whole_turned : (x : Float) → (q : ℕ) × (d : ℕ) × (d ≤ 1) × (((whole_of x ≡ pos q) × (whole_of (neg x) ≡ neg_ℤ (pos (q + d)))) ⊎ ((whole_of x ≡ neg_ℤ (pos (q + d))) × (whole_of (neg x) ≡ pos q)))
unfolding whole_of neg
whole_turned nan = (0, 0, zero-le, inl (refl, refl))
whole_turned (inf s) = (0, 0, zero-le, inl (refl, refl))
whole_turned (fin false m e) = let r = cut_away (m * up e) (down e) in (m * up e / down e, r.0, r.1, inl (refl, ap (λ (c : ℕ). neg_ℤ (pos c)) r.2))
whole_turned (fin true m e) = let r = cut_away (m * up e) (down e) in (m * up e / down e, r.0, r.1, inr (ap (λ (c : ℕ). neg_ℤ (pos c)) r.2, refl))

-- the floor of -x is minus the floor of x, and neither has anything above it but a zero
pub record ZeroFraction (x : Float) : Type 0 where
  pub opposite : whole_of (neg x) ≡ neg_ℤ (whole_of x)
  pub ahead : (s : Bool) × (fraction_of x ≡ fin s 0 (pos 0))
  pub behind : (s : Bool) × (fraction_of (neg x) ≡ fin s 0 (pos 0))

pub fraction_is : (x : Float) → fraction_of x ≡ minus x (of_int binary64 (whole_of x))
unfolding fraction_of
fraction_is x = refl

a_zero : (x : Float) → eq (fraction_of x) zero64 ≡ true → (s : Bool) × (fraction_of x ≡ fin s 0 (pos 0))
a_zero x h = zero_of_equal (fraction_of x) (rw fraction_is (sub-fits binary64 x (of_int binary64 (whole_of x)))) h

-- an f64 whose fraction is zero is whole, and so is its negative
pub zero_fraction : (x : Float) → T (fits binary64 x) → T (finite x) → eq (fraction_of x) zero64 ≡ true → ZeroFraction x
zero_fraction nan f i h = absurd i
zero_fraction (inf s) f i h = absurd i
zero_fraction (fin s m e) f i h =
    let x = fin s m e in
    let y = of_int binary64 (whole_of x) in
    let F = of_int-fits binary64 (whole_of x) in
    let a = m * up e in
    let w = floor_whole s m e f in
    let q : eq x y ≡ true = equal_of_difference x y f F tt (whole_finite s m e f) (rw (fraction_is x) at h) in
    let k : eq x (floor_of x) ≡ true = sym (alike_eq x x y (floor_of x) refl (whole_alike x tt)) ∙ q in
    let z : a % down e ≡ 0 = ap (λ (n : ℕ). n % down e) (same_size s m e (floor_of x) s w.0 w.2 k) ∙ mul-mod_left w.0 (down e) in
    let o : whole_of (neg x) ≡ neg_ℤ (whole_of x) =
    ap whole_of (neg_is s m e)
    ∙ whole_is (not s) m e
    ∙ ap (signed (not s)) (cut_exact (not s) a (down e) z)
    ∙ signed_not s (a / down e)
    ∙ ap (λ (n : ℕ). neg_ℤ (signed s n)) (sym (cut_exact s a (down e) z))
    ∙ ap neg_ℤ (sym (whole_is s m e)) in
    let y' = of_int binary64 (whole_of (neg x)) in
    let g = neg-fits binary64 x f in
    let l : Alike (neg x) y' = alike_neg x y (alike_of_equal x y f F q) ∙ sym (int_neg_alike (whole_of x)) ∙ ap (λ (n : ℤ). unsigned (of_int binary64 n)) (sym o) in
    let N : T (finite (neg x)) = rw (neg_is s m e) tt in
    let G : T (finite y') = rw (neg_is s m e) (whole_finite (not s) m e (rw (neg_is s m e) at g)) in
    record {
      opposite = o;
      ahead = a_zero x h;
      behind = a_zero (neg x) (rw (fraction_is (neg x)) (difference_of_equal (neg x) y' g (of_int-fits binary64 (whole_of (neg x))) G (equal_of_alike (neg x) y' N l)));
    }
