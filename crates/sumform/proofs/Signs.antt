-- No sum that starts at +0 is ever -0: what is added to a number that isn't -0 does not make one of it. Assumes nothing.
use mathlib.Core.Path.{◌≡◌, refl, sym, ap, ◌∙◌}
use Prim.Native.Nat.{ℕ, zero, suc}
use mathlib.Core.Bool.{Bool, true, false}
use lib.Dec.{T}
use lib.IntN.{ℤ, pos}
use lib.Ieee.{Float, nan, inf, fin, binary64, neg, add, sub, eq, fits}
use lib.Ieee.Fits.{neg-fits}
use Rattle.numbers.specs.Arithmetic.{plus, minus, zero64}
use Rattle.numbers.specs.Finite.{finite}
use Rattle.numbers.specs.Zeros.{unsigned, Alike}
use Rattle.numbers.proofs.Values.{zero_exp, neg_neg}
use Rattle.numbers.proofs.Finite.{minus_self}
use Rattle.numbers.proofs.Swaps.{plus_swap}
use Rattle.numbers.proofs.Comparisons.{alike_of_equal, equal_of_zero}
use Rattle.numbers.proofs.Differences.{equal_of_difference}
use Rattle.lists.specs.Floats.{sum_on}
use Rattle.lists.proofs.Tests.{holds}
use Rattle.lists.proofs.Sums.{Fits, plus_finite, sum_fits}
use Rattle.sumform.specs.Entry.{NotMinusZero}

-- numbers that are alike, neither of them -0, are equal
pub alike_equal : (x y : Float) → NotMinusZero x → NotMinusZero y → Alike x y → x ≡ y
alike_equal x y p q a = sym p ∙ a ∙ q

-- ---- a sum that is a zero is +0
positive : (t : Bool) → plus (fin false 0 (pos 0)) (fin t 0 (pos 0)) ≡ fin false 0 (pos 0)
unfolding add
positive true = refl
positive false = refl

-- y and its negative, but for a zero's sign
opposite : (y : Float) → T (fits binary64 y) → T (finite y) → plus (unsigned (neg y)) y ≡ fin false 0 (pos 0)
unfolding neg sub
opposite nan f h = absurd h
opposite (inf s) f h = absurd h
opposite (fin t zero e) f h = ap (λ (z : ℤ). plus (fin false 0 z) (fin t 0 z)) (zero_exp binary64 t e f) ∙ positive t
opposite (fin t (suc n) e) f h = plus_swap (neg (fin t (suc n) e)) (fin t (suc n) e) ∙ minus_self (fin t (suc n) e) h

finite_neg : (y : Float) → T (finite y) → T (finite (neg y))
unfolding neg
finite_neg nan h = h
finite_neg (inf s) h = h
finite_neg (fin s m e) h = h

zero_sum : (x y : Float) → Fits x → Fits y → T (finite x) → T (finite y) → NotMinusZero x → eq (plus x y) zero64 ≡ true → plus x y ≡ fin false 0 (pos 0)
unfolding sub
zero_sum x y f g i j p h =
    let e : minus x (neg y) ≡ plus x y = ap (plus x) (neg_neg y) in
    let k = neg-fits binary64 y g in
    let a : Alike x (neg y) = alike_of_equal x (neg y) f k (equal_of_difference x (neg y) f k i (finite_neg y j) (ap (λ (z : Float). eq z zero64) e ∙ h)) in
    ap (λ (z : Float). plus z y) (sym p ∙ a) ∙ opposite y g j

pub plus_keeps : (x y : Float) → Fits x → Fits y → NotMinusZero x → NotMinusZero (plus x y)
plus_keeps x y f g p = go (plus x y) refl
  where
    go : (z : Float) → plus x y ≡ z → NotMinusZero z
    go nan e = refl
    go (inf s) e = refl
    go (fin s zero d) e =
        let F = plus_finite x y (ap finite e) in
        let q = zero_sum x y f g (holds (finite x) F.0) (holds (finite y) F.1) p (ap (λ (z : Float). eq z zero64) e ∙ equal_of_zero s d) in
        ap unsigned (sym e ∙ q) ∙ sym q ∙ e
    go (fin s (suc m) d) e = refl

-- THE LAW: whatever is added
pub sum_keeps : (t : ℕ → Float) → ((j : ℕ) → Fits (t j)) → (s : Float) (k : ℕ) → Fits s → NotMinusZero s → NotMinusZero (sum_on s k t)
unfolding sum_on
sum_keeps t all s zero f p = p
sum_keeps t all s (suc k) f p = plus_keeps (sum_on s k t) (t k) (sum_fits t all s k f) (all k) (sum_keeps t all s k f p)
