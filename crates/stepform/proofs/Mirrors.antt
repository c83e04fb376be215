-- What a boundary does to an entry: a reflecting axis is the front half of a periodic one twice as long, which holds its points and then its points backwards; and far enough from both ends an entry is
-- the same for any boundary. Assumes nothing.
use mathlib.Core.Path.{◌≡◌, refl, sym, ap, ◌∙◌}
use mathlib.Core.Logic.{inl, inr}
use Prim.Native.Nat.{ℕ, zero, suc, ◌+◌, ◌-◌, ◌*◌, ◌<◌, ◌≤◌}
use native.Mathlib.Omega.{arith}
use mathlib.Core.Bool.{Bool, cond}
use mathlib.Core.List.{List}
use borrow.Author.Tests.{le-ltb}
use lib.IntN.{ℤ, pos, negsuc, neg_ℤ, nat_abs, ◌+ℤ◌, ◌-ℤ◌}
use lib.Ieee.{Float, neg}
use Rattle.numbers.specs.Arithmetic.{plus, times, half64, quarter64}
use Rattle.numbers.specs.Whole.{whole_of, fraction_of}
use Rattle.numbers.proofs.Wholes.{whole_turned}
use Rattle.lists.specs.Floats.{at, sum_on}
use Rattle.lists.proofs.Loops.{iter_same}
use Rattle.shape.specs.Cores.{Core, core_with, entry, block}
use Rattle.shape.proofs.Places.{entry_block}
use Rattle.stepform.specs.Boundaries.{periodic, reflecting, reflected, wrapped}
use Rattle.stepform.specs.Weights.{cubic_band_weights, band_on, shifted_at}
use Rattle.stepform.specs.Shifts.{shifted}
use Rattle.stepform.proofs.Boundaries.{reflected_near, wrapped_periodic, wrapped_reflecting, wrapped_lt, wrapped_inside}

-- ---- two entries that read the same numbers
module _ (w x : ℤ → ℕ) (u v : ℕ → Float) (i : ℕ) where
  -- the four numbers that the band at s0 reads
  abbrev SameAt : ℤ → Type 0
  SameAt s0 = (m : ℕ) → m < 4 → u (w (pos i +ℤ s0 -ℤ pos 1 +ℤ pos m)) ≡ v (x (pos i +ℤ s0 -ℤ pos 1 +ℤ pos m))

  band_same : (acc : Float) (ws : List Float) (s0 : ℤ) → SameAt s0 → band_on acc w ws s0 u i ≡ band_on acc x ws s0 v i
  unfolding band_on sum_on
  band_same acc ws s0 h =
      iter_same 4 (λ (m : ℕ) (s : Float). plus s (times (times quarter64 (at ws m)) (u (w (pos i +ℤ s0 -ℤ pos 1 +ℤ pos m)))))
      (λ (m : ℕ) (s : Float). plus s (times (times quarter64 (at ws m)) (v (x (pos i +ℤ s0 -ℤ pos 1 +ℤ pos m))))) acc
      (λ m s l. ap (λ (y : Float). plus s (times (times quarter64 (at ws m)) y)) (h m l))

  shift_same : (forward backward : List Float) (s0 s1 : ℤ) → u i ≡ v i → SameAt s0 → SameAt s1 → shifted_at w forward s0 backward s1 u i ≡ shifted_at x forward s0 backward s1 v i
  unfolding shifted_at
  shift_same forward backward s0 s1 e f g =
      ap (λ (y : Float). band_on (band_on (times half64 y) w forward s0 u i) w backward s1 u i) e
      ∙ ap (λ (y : Float). band_on y w backward s1 u i) (band_same (times half64 (v i)) forward s0 f)
      ∙ band_same (band_on (times half64 (v i)) x forward s0 v i) backward s1 g

-- ---- the entries of a core's shift
abbrev pub made : Core → Float → ℕ → Core
made c ratio boundary = core_with c.rl c.n c.rr (shifted c ratio boundary)

pub entry_made : (c : Core) (ratio : Float) (boundary il im ir : ℕ) → il < c.rl → im < c.n → ir < c.rr
    → entry (made c ratio boundary) il im ir ≡ shifted_at (wrapped boundary c.n) (cubic_band_weights (fraction_of ratio)) (whole_of ratio) (cubic_band_weights (fraction_of (neg ratio))) (whole_of (neg ratio)) (λ (i : ℕ). entry c il i ir) im
unfolding shifted
entry_made c ratio boundary il im ir a b d = entry_block c.rl c.n c.rr _ il im ir a b d

-- a core's points, and behind them its points backwards
abbrev pub there_and_back : Core → Core
there_and_back c = core_with c.rl (2 * c.n) c.rr (block c.rl (2 * c.n) c.rr (λ (il im ir : ℕ). entry c il (reflected c.n im) ir))

-- THE MIRROR: what a reflecting axis of n points makes, a periodic one of 2n makes of the points and the points backwards
pub mirrored_entry : (c : Core) (ratio : Float) (il im ir : ℕ) → il < c.rl → im < c.n → ir < c.rr
    → entry (made c ratio reflecting) il im ir ≡ entry (made (there_and_back c) ratio periodic) il im ir
mirrored_entry c ratio il im ir a b d =
    let n = c.n in
    let twice : (j : ℕ) → j < 2 * n → entry (there_and_back c) il j ir ≡ entry c il (reflected n j) ir = λ j l. entry_block c.rl (2 * n) c.rr _ il j ir a l d in
    let same : (z : ℤ) → entry c il (wrapped reflecting n z) ir ≡ entry (there_and_back c) il (wrapped periodic (2 * n) z) ir =
    λ z.
    ap (λ (j : ℕ). entry c il j ir) (wrapped_reflecting n z ∙ ap (reflected n) (sym (wrapped_periodic (2 * n) z)))
    ∙ sym (twice (wrapped periodic (2 * n) z) (wrapped_lt periodic (2 * n) z (omega arith))) in
    entry_made c ratio reflecting il im ir a b d
    ∙ shift_same (wrapped reflecting n) (wrapped periodic (2 * n)) (λ (i : ℕ). entry c il i ir) (λ (i : ℕ). entry (there_and_back c) il i ir) im _ _ (whole_of ratio) (whole_of (neg ratio))
    (ap (λ (j : ℕ). entry c il j ir) (sym (reflected_near n im b)) ∙ sym (twice im (omega arith))) (λ m l. same _) (λ m l. same _)
    ∙ sym (entry_made (there_and_back c) ratio periodic il im ir a (omega arith) d)

-- ---- far from both ends
-- k before i
before : (i k : ℕ) → k ≤ i → pos i -ℤ pos k ≡ pos (i - k)
before i zero h = ap pos (omega arith)
before i (suc k) h = ap (λ (p : Bool). cond p (negsuc (suc k - suc i)) (pos (i - suc k))) (le-ltb i (suc k) h)

-- an index that lies within the axis is its own point, for any boundary
within : (b n j m : ℕ) (z : ℤ) → z ≡ pos j → 1 ≤ j → j + m < n + 1 → wrapped b n (z -ℤ pos 1 +ℤ pos m) ≡ j - 1 + m
within b n j m z e l h = ap (λ (y : ℤ). wrapped b n (y -ℤ pos 1 +ℤ pos m)) e ∙ ap (λ (y : ℤ). wrapped b n (y +ℤ pos m)) (before j 1 l) ∙ wrapped_inside b n (j - 1 + m) (omega arith)

-- FAR FROM BOTH ENDS: where all of i - |s0| - 2 to i + |s0| + 2 lie within 0 to n - 1, the boundary is of no matter
pub far_from_ends : (c : Core) (ratio : Float) (a b il im ir : ℕ) → il < c.rl → ir < c.rr → nat_abs (whole_of ratio) + 2 ≤ im → im + nat_abs (whole_of ratio) + 2 < c.n
    → entry (made c ratio a) il im ir ≡ entry (made c ratio b) il im ir
far_from_ends c ratio a b il im ir p q low high =
    let t = whole_turned ratio in
    let size = t.0 in
    let more = t.1 in
    let one : more ≤ 1 = t.2 in
    elim t.3 [
      | inl e ↦
          let s : nat_abs (whole_of ratio) ≡ size = ap nat_abs e.0 in
          both (λ m l. read (im + size) m (ap (λ (z : ℤ). pos im +ℤ z) e.0) (omega arith) (omega arith))
          (λ m l. read (im - (size + more)) m (ap (λ (z : ℤ). pos im +ℤ z) e.1 ∙ before im (size + more) (omega arith)) (omega arith) (omega arith))
      | inr e ↦
          let s : nat_abs (whole_of ratio) ≡ size + more = ap nat_abs e.0 ∙ size_of_minus (size + more) in
          both (λ m l. read (im - (size + more)) m (ap (λ (z : ℤ). pos im +ℤ z) e.0 ∙ before im (size + more) (omega arith)) (omega arith) (omega arith))
          (λ m l. read (im + size) m (ap (λ (z : ℤ). pos im +ℤ z) e.1) (omega arith) (omega arith))
    ]
  where
    size_of_minus : (k : ℕ) → nat_abs (neg_ℤ (pos k)) ≡ k
    size_of_minus zero = refl
    size_of_minus (suc k) = refl

    fibre : ℕ → Float
    fibre i = entry c il i ir

    -- j is where a band stands
    read : {z : ℤ} (j m : ℕ) → z ≡ pos j → 1 ≤ j → j + m < c.n + 1 → fibre (wrapped a c.n (z -ℤ pos 1 +ℤ pos m)) ≡ fibre (wrapped b c.n (z -ℤ pos 1 +ℤ pos m))
    read {z} j m e l h = ap fibre (within a c.n j m z e l h ∙ sym (within b c.n j m z e l h))

    both : SameAt (wrapped a c.n) (wrapped b c.n) fibre fibre im (whole_of ratio) → SameAt (wrapped a c.n) (wrapped b c.n) fibre fibre im (whole_of (neg ratio))
        → entry (made c ratio a) il im ir ≡ entry (made c ratio b) il im ir
    both f g =
        entry_made c ratio a il im ir p (omega arith) q
        ∙ shift_same (wrapped a c.n) (wrapped b c.n) fibre fibre im _ _ (whole_of ratio) (whole_of (neg ratio)) refl f g
        ∙ sym (entry_made c ratio b il im ir p (omega arith) q)
