-- Where the rows of a band start, and what it reads there. Assumes nothing.
use mathlib.Core.Path.{◌≡◌, sym, ap, ◌∙◌}
use Prim.Native.Nat.{ℕ, suc, ◌+◌, ◌-◌, ◌*◌, ◌^◌, ◌<◌, ◌≤◌}
use native.Mathlib.Nat.{le_of_lt, mul-le-mul_right, add-mul}
use native.Mathlib.Numerals.{add-one}
use native.Mathlib.Omega.{arith}
use mathlib.Core.List.{List, [], ◌∷◌}
use lib.IntN.{ℤ, pos, nat_abs, ◌+ℤ◌, ◌-ℤ◌, +ℤ_idr, +ℤ_assoc, +ℤ_comm, -ℤ-+ℤ_cancel}
use lib.Ieee.{Float}
use mir.Syntax.{w64}
use mir.Val.{Fits}
use Rattle.numbers.specs.Residues.{wrap}
use Rattle.numbers.specs.Whole.{whole_in_reach}
use Rattle.numbers.proofs.Residues.{wrap_lt, wrap_before}
use Rattle.numbers.proofs.Reach.{in_reach_small}
use Rattle.lists.specs.Lists.{listed}
use Rattle.lists.proofs.Tables.{get_or_tab_lem}
use Rattle.shift.specs.Starts.{nat_at, starts_of, StartRoom}

-- ---- where the rows of a band start
-- offset s0 - 1 + (m + 1) is m ahead of s0
next : (z : ℤ) (m : ℕ) → z -ℤ pos 1 +ℤ pos (suc m) ≡ pos m +ℤ z
next z m =
    ap (λ (k : ℕ). z -ℤ pos 1 +ℤ pos k) (sym (add-one m))
    ∙ ap (λ (y : ℤ). z -ℤ pos 1 +ℤ y) (+ℤ_comm (pos m) (pos 1))
    ∙ sym (+ℤ_assoc (z -ℤ pos 1) (pos 1) (pos m))
    ∙ ap (λ (y : ℤ). y +ℤ pos m) (-ℤ-+ℤ_cancel z (pos 1))
    ∙ +ℤ_comm z (pos m)

pub starts_are : (n rr a b c d : ℕ) (y z : ℤ) → 1 ≤ n → y ≡ z → a ≡ wrap n (pos (n - 1) +ℤ y) → b ≡ wrap n (pos 0 +ℤ y) → c ≡ wrap n (pos 1 +ℤ y) → d ≡ wrap n (pos 2 +ℤ y)
    → a * rr ∷ b * rr ∷ c * rr ∷ d * rr ∷ [] ≡ starts_of n rr z
unfolding starts_of listed
starts_are n rr a b c d y z h e p q r s =
    let o : a ≡ wrap n (z -ℤ pos 1 +ℤ pos 0) = p ∙ wrap_before n y h ∙ ap (λ (x : ℤ). wrap n (x -ℤ pos 1)) e ∙ ap (wrap n) (sym (+ℤ_idr (z -ℤ pos 1))) in
    let on : (m : ℕ) → wrap n (pos m +ℤ y) ≡ wrap n (z -ℤ pos 1 +ℤ pos (suc m)) = λ m. ap (λ (x : ℤ). wrap n (pos m +ℤ x)) e ∙ ap (wrap n) (sym (next z m)) in
    rw (o, q ∙ on 0, r ∙ on 1, s ∙ on 2)

pub start_fits : (a n rr : ℕ) (z : ℤ) → a ≡ wrap n z → 1 ≤ n → n * rr < 2 ^ 64 → Fits w64 (a * rr)
start_fits a n rr z e h l = rw e (record { fits = omega (arith, mul-le-mul_right rr (le_of_lt (wrap_lt n z h))) })

-- a whole number that was within reach can be stepped by
pub size_fits : (x : Float) (z : ℤ) → z ≡ whole_in_reach x → nat_abs z ≤ 2 ^ 32
size_fits x z e = omega (arith, in_reach_small x z e)

pub start_at : (n rr : ℕ) (z : ℤ) (m : ℕ) → m < 4 → nat_at (starts_of n rr z) m ≡ wrap n (z -ℤ pos 1 +ℤ pos m) * rr
unfolding starts_of
start_at n rr z m l = get_or_tab_lem 4 (λ (i : ℕ). wrap n (z -ℤ pos 1 +ℤ pos i) * rr) m 0 l

-- n rows from any start lie within n rows more than a period
pub starts_room : (p n rr : ℕ) (z : ℤ) → 1 ≤ p → StartRoom (starts_of p rr z) (n * rr) ((p + n) * rr)
starts_room p n rr z h m l = omega (arith, start_at p rr z m l, mul-le-mul_right rr (le_of_lt (wrap_lt p (z -ℤ pos 1 +ℤ pos m) h)), add-mul p n rr)

-- ---- what a band reads: number j of t from the start of each row
module _ (starts : List ℕ) (m j l : ℕ) (r : StartRoom starts (suc j) l) (h : m < 4) where
  pub near_lt : nat_at starts m + j < l
  near_lt = omega (arith, r m h)

  pub near_fits : l < 2 ^ 64 → Fits w64 (nat_at starts m + j)
  near_fits s = record { fits = omega (arith, r m h) }

  pub near_scaled : l * 8 < 2 ^ 63 → Fits w64 ((nat_at starts m + j) * 8)
  near_scaled s = record { fits = omega (arith, r m h) }

pub room_at : (starts : List ℕ) (j h l : ℕ) → StartRoom starts h l → j < h → StartRoom starts (suc j) l
room_at starts j h l r g m s = omega (arith, r m s)

pub ruleset rooms = (near_lt, near_fits, near_scaled, room_at)

pub ruleset starting = (starts_are, start_fits, size_fits)
