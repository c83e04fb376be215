-- Integers modulo n: a residue is below n, and a sum's residue is that of the residues. Assumes nothing.
use Rattle.std.proofs.Common.{zero-le}
use mathlib.Core.Path.{◌≡◌, refl, sym, ap, ◌∙◌}
use mathlib.Core.Logic.{inl, inr}
use Prim.Native.Nat.{ℕ, zero, suc, ◌+◌, ◌-◌, ◌*◌, ◌/◌, ◌%◌, ◌≤◌, ◌<◌}
use native.Mathlib.Nat.{eq-or-lt_of_le, zero-mod, sub-zero, sub_self, mod-lt, mod-eq_of_lt, mod_self, add-mod_left, add-mod_right, add-mod-mod, add-mul-mod_self_right, suc-mod, div-add-mod', add-zero, suc-mul}
use native.Mathlib.Omega.{arith}
use mathlib.Core.Bool.{Bool, true, false, cond, true≢false}
use borrow.Author.Tests.{le-ltb, ltb-true, ltb-false}
use lib.Dec.{ltb}
use lib.IntN.{ℤ, pos, negsuc, nat_abs, sub_ℕ, ◌+ℤ◌, ◌-ℤ◌, +ℤ_comm, +ℤ_assoc}
use Rattle.std.specs.Prelude.{int_lt}
use Rattle.numbers.specs.Residues.{wrap}

pub wrap_lt : (n : ℕ) (z : ℤ) → 0 < n → wrap n z < n
unfolding wrap
wrap_lt n (pos k) h = mod-lt k h
wrap_lt n (negsuc k) h = omega arith

pub wrap_small : (n i : ℕ) → i < n → wrap n (pos i) ≡ i
unfolding wrap
wrap_small n i h = mod-eq_of_lt h

-- ---- a sum
-- i - (k + 1), where i is at most k and where it is not
module _ (n i k : ℕ) (N : 0 < n) where
  under : i < suc k → n - suc ((suc k - suc i) % n) ≡ (i + (n - suc (k % n))) % n
  under h =
      let j = suc k - suc i in
      let p = div-add-mod' j n in
      let q = div-add-mod' k n in
      let r = mod-lt j N in
      let s = mod-lt k N in
      let e : i + (n - suc (k % n)) + j / n * n ≡ n - suc (j % n) + k / n * n = omega arith in
      sym
      (sym (add-mul-mod_self_right (i + (n - suc (k % n))) (j / n) n)
      ∙ ap (λ (x : ℕ). x % n) e
      ∙ add-mul-mod_self_right (n - suc (j % n)) (k / n) n
      ∙ mod-eq_of_lt (omega arith))

  over : suc k ≤ i → (i - suc k) % n ≡ (i + (n - suc (k % n))) % n
  over h =
      let q = div-add-mod' k n in
      let s = mod-lt k N in
      let e : i + (n - suc (k % n)) ≡ i - suc k + suc (k / n) * n = omega (arith, suc-mul (k / n) n) in
      sym (ap (λ (x : ℕ). x % n) e ∙ add-mul-mod_self_right (i - suc k) (suc (k / n)) n)

  wrap_sub : wrap n (sub_ℕ i (suc k)) ≡ (i + (n - suc (k % n))) % n
  unfolding wrap
  wrap_sub = go (ltb i (suc k)) refl
    where
      go : (b : Bool) → ltb i (suc k) ≡ b → wrap n (cond b (negsuc (suc k - suc i)) (pos (i - suc k))) ≡ (i + (n - suc (k % n))) % n
      go true h = under (ltb-true i (suc k) h)
      go false h = over (ltb-false i (suc k) h)

pub wrap_plus : (n i : ℕ) (z : ℤ) → 0 < n → wrap n (pos i +ℤ z) ≡ (i + wrap n z) % n
unfolding wrap
wrap_plus n i (pos k) h = sym (add-mod-mod i k n)
wrap_plus n i (negsuc k) h = wrap_sub n i k h

pub wrap_around : (n : ℕ) (z : ℤ) → 0 < n → wrap n (z +ℤ pos n) ≡ wrap n z
wrap_around n z h = ap (wrap n) (+ℤ_comm z (pos n)) ∙ wrap_plus n n z h ∙ add-mod_left n (wrap n z) ∙ mod-eq_of_lt (wrap_lt n z h)

-- one before is n - 1 ahead
pub wrap_before : (n : ℕ) (z : ℤ) → 0 < n → wrap n (pos (n - 1) +ℤ z) ≡ wrap n (z -ℤ pos 1)
wrap_before n z h =
    let e : negsuc 0 +ℤ pos n ≡ pos (n - 1) = ap (λ (b : Bool). cond b (negsuc (1 - suc n)) (pos (n - 1))) (le-ltb n 1 h) in
    ap (wrap n) (+ℤ_comm (pos (n - 1)) z ∙ ap (λ (y : ℤ). z +ℤ y) (sym e) ∙ sym (+ℤ_assoc z (negsuc 0) (pos n))) ∙ wrap_around n (z -ℤ pos 1) h

-- ---- a difference, by what n leaves of the second
next : (n i r : ℕ) → r < n → (i + (n - suc r)) % n ≡ (i + (n - suc r % n)) % n
next n i r h = elim (eq-or-lt_of_le h) [
  | inl e ↦ rw (e, mod_self n, sub_self n, sub-zero n, add-zero i) (sym (add-mod_right i n))
  | inr l ↦ ap (λ (x : ℕ). (i + (n - x)) % n) (sym (mod-eq_of_lt l))
]

pub wrap_minus : (n i s : ℕ) → 0 < n → wrap n (pos i -ℤ pos s) ≡ (i + (n - s % n)) % n
unfolding wrap
wrap_minus n i zero h = ap (λ (x : ℕ). x % n) (add-zero i) ∙ sym (ap (λ (x : ℕ). (i + (n - x)) % n) (zero-mod n) ∙ ap (λ (x : ℕ). (i + x) % n) (sub-zero n) ∙ add-mod_right i n)
wrap_minus n i (suc k) h = wrap_sub n i k h ∙ next n i (k % n) (mod-lt k h) ∙ ap (λ (x : ℕ). (i + (n - x)) % n) (sym (suc-mod k n))

-- ---- a step of either sign is one ahead or one behind by its size
pub step_back : (i : ℕ) (z : ℤ) → int_lt z (pos 0) ≡ true → pos i -ℤ pos (nat_abs z) ≡ pos i +ℤ z
step_back i (pos k) h = absurd (true≢false (sym h ∙ le-ltb k 0 zero-le))
step_back i (negsuc k) h = refl

pub step_on : (i : ℕ) (z : ℤ) → int_lt z (pos 0) ≡ false → pos i +ℤ pos (nat_abs z) ≡ pos i +ℤ z
step_on i (pos k) h = refl
step_on i (negsuc k) h = absurd (true≢false h)
