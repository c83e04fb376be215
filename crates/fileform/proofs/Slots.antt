-- Laws of slots: what is read of one that has room left, and numbers that are finite slot by slot. Assumes nothing.
use mathlib.Core.Path.{◌≡◌, refl, ap, ◌∙◌}
use Prim.Native.Nat.{ℕ, zero, suc, ◌<◌}
use native.Mathlib.Omega.{arith}
use mathlib.Core.Bool.{true}
use mathlib.Core.List.{List, ◌++◌}
use lib.ListN.{length, take, get_or, replicate, get_or-append}
use lib.Seq.{take-add, get_or-take}
use lib.Ieee.{Float}
use Rattle.lists.specs.Slots.{offset, slot, fit}
use Rattle.lists.specs.Floats.{all_finite}
use Rattle.lists.proofs.Floats.{finite_append}

pub fit_at : {A : Type 0} (o : A) (n : ℕ) (x : List A) (k : ℕ) (z : A) → k < length x → k < n → get_or (fit o n x) k z ≡ get_or x k z
unfolding fit
fit_at o n x k z inside room = get_or-take n (x ++ replicate n o) k z room ∙ get_or-append x (replicate n o) z k inside

pub finite_slots : (size : ℕ → ℕ) (l : List Float) (k : ℕ) → ((j : ℕ) → j < k → all_finite (slot size j l) ≡ true) → all_finite (take (offset size k) l) ≡ true
unfolding offset slot all_finite
finite_slots size l zero h = refl
finite_slots size l (suc k) h =
    ap all_finite (take-add (offset size k) (size k) l)
    ∙ finite_append (take (offset size k) l) (slot size k l) (finite_slots size l k (λ j lt. h j (omega arith))) (h k (omega arith))
