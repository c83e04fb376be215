-- What a comparison tells; numbers with equal bits are equal. Assumes nothing.
use mathlib.Core.Path.{◌≡◌, refl, sym, ap, ◌∙◌}
use Prim.Native.Nat.{ℕ}
use mathlib.Core.Bool.{Bool, true, false, true≢false}
use lib.Dec.{T, eqb}
use lib.Ieee.{Float, binary64, fits, to_bits, of_bits}
use lib.Ieee.Bits.{of_bits-to_bits}
use Rattle.lists.proofs.Tests.{eqb_is, eqb_yes, same_test}
use Rattle.std.specs.Bool.{Decides}
use Rattle.comparing.specs.Same.{Tells}

-- ---- what an answer tells; whatever X is, there is one such answer
pub one_answer : {X : Type 0} {r s : Bool} → Tells r X → Tells s X → r ≡ s
one_answer t u = same_test _ _ (λ e. u.always (t.only e)) (λ e. t.always (u.only e))

pub tells_no : {X : Type 0} → (X → ⊥) → Tells false X
tells_no h = record { only = λ e. absurd (true≢false (sym e)); always = λ x. absurd (h x) }

pub decided : {X : Type 0} {r : Bool} → Decides r X → Tells r X
decided d = record { only = d.0; always = d.1 }

pub told_yes : {X : Type 0} → Tells true X → X
told_yes t = t.only refl

pub told_no : {X : Type 0} → Tells false X → X → ⊥
told_no t x = true≢false (sym (t.always x))

-- a test that failed says that X does not hold
pub refuted : {X : Type 0} {r : Bool} → Tells r X → r ≡ false → X → ⊥
refuted t e x = true≢false (sym (t.always x) ∙ e)

pub tells_as : {X Y : Type 0} {r : Bool} → Tells r X → (X → Y) → (Y → X) → Tells r Y
tells_as t f g = record { only = λ e. f (t.only e); always = λ y. t.always (g y) }

-- ---- two numbers, by their bits
pub same_bits : (x y : Float) → T (fits binary64 x) → T (fits binary64 y) → to_bits binary64 x ≡ to_bits binary64 y → x ≡ y
same_bits x y f g e = sym (of_bits-to_bits binary64 x f) ∙ ap (of_bits binary64) e ∙ of_bits-to_bits binary64 y g

pub bits_tell : (x y : Float) (m n : ℕ) → T (fits binary64 x) → T (fits binary64 y) → m ≡ to_bits binary64 x → n ≡ to_bits binary64 y → Tells (eqb m n) (x ≡ y)
bits_tell x y m n f g p q = record { only = λ e. same_bits x y f g (sym p ∙ eqb_is m n e ∙ q); always = λ e. eqb_yes m n (p ∙ ap (to_bits binary64) e ∙ sym q) }
