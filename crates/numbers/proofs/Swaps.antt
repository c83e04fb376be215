-- x + y is y + x, and x * y is y * x. Assumes nothing.
use mathlib.Core.Path.{◌≡◌, refl, sym, ap, ◌∙◌}
use Prim.Native.Nat.{ℕ, ◌-◌, ◌*◌}
use native.Mathlib.Nat.{add_comm, mul_comm}
use native.Mathlib.Omega.{arith}
use mathlib.Core.Bool.{Bool, true, false, cond}
use borrow.Author.Tests.{ltb-true, ltb-false}
use lib.Dec.{ltb, eqb}
use lib.Ieee.{Float, nan, inf, fin, Format, binary64, up, down, unlike, round, sum, add, mul}
use Rattle.numbers.specs.Arithmetic.{plus, times}
use Rattle.numbers.proofs.Values.{add_is, mul_is}

-- ---- sums
differ : (f : Format) (a b c : ℕ) (p q : Bool) → ltb a b ≡ p → ltb b a ≡ q → cond p (round f false (b - a) c) (round f q (a - b) c) ≡ cond q (round f true (a - b) c) (round f false (b - a) c)
differ f a b c true true h k =
    let l = ltb-true a b h in
    let m = ltb-true b a k in
    absurd (omega arith)
differ f a b c true false h k = refl
differ f a b c false true h k = refl
differ f a b c false false h k =
    let l = ltb-false a b h in
    let m = ltb-false b a k in
    let e : a - b ≡ b - a = omega arith in
    ap (λ (n : ℕ). round f false n c) e

sum_swap : (f : Format) (s : Bool) (a : ℕ) (t : Bool) (b c : ℕ) → sum f s a t b c ≡ sum f t b s a c
unfolding sum
sum_swap f true a true b c = ap (λ (n : ℕ). round f true n c) (add_comm a b)
sum_swap f false a false b c = ap (λ (n : ℕ). round f false n c) (add_comm a b)
sum_swap f true a false b c = differ f a b c (ltb a b) (ltb b a) refl refl
sum_swap f false a true b c = sym (differ f b a c (ltb b a) (ltb a b) refl refl)

pub plus_swap : (x y : Float) → plus x y ≡ plus y x
unfolding add
plus_swap nan nan = refl
plus_swap nan (inf t) = refl
plus_swap nan (fin t n d) = refl
plus_swap (inf s) nan = refl
plus_swap (inf true) (inf true) = refl
plus_swap (inf true) (inf false) = refl
plus_swap (inf false) (inf true) = refl
plus_swap (inf false) (inf false) = refl
plus_swap (inf s) (fin t n d) = refl
plus_swap (fin s m e) nan = refl
plus_swap (fin s m e) (inf t) = refl
plus_swap (fin s m e) (fin t n d) =
    add_is binary64 s m e t n d
    ∙ sum_swap binary64 s (m * up e * down d) t (n * up d * down e) (down e * down d)
    ∙ ap (sum binary64 t (n * up d * down e) s (m * up e * down d)) (mul_comm (down e) (down d))
    ∙ sym (add_is binary64 t n d s m e)

-- ---- products
pub unlike_swap : (s t : Bool) → unlike s t ≡ unlike t s
unlike_swap true true = refl
unlike_swap true false = refl
unlike_swap false true = refl
unlike_swap false false = refl

pub times_swap : (x y : Float) → times x y ≡ times y x
unfolding mul
times_swap nan nan = refl
times_swap nan (inf t) = refl
times_swap nan (fin t n d) = refl
times_swap (inf s) nan = refl
times_swap (inf s) (inf t) = ap inf (unlike_swap s t)
times_swap (inf s) (fin t n d) = ap (λ (u : Bool). cond (eqb n 0) nan (inf u)) (unlike_swap s t)
times_swap (fin s m e) nan = refl
times_swap (fin s m e) (inf t) = ap (λ (u : Bool). cond (eqb m 0) nan (inf u)) (unlike_swap s t)
times_swap (fin s m e) (fin t n d) =
    mul_is binary64 s m e t n d
    ∙ ap (λ (u : Bool). round binary64 u (m * up e * (n * up d)) (down e * down d)) (unlike_swap s t)
    ∙ ap (λ (a : ℕ). round binary64 (unlike t s) a (down e * down d)) (mul_comm (m * up e) (n * up d))
    ∙ ap (round binary64 (unlike t s) (n * up d * (m * up e))) (mul_comm (down e) (down d))
    ∙ sym (mul_is binary64 t n d s m e)
