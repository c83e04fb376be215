-- The shift over a block written on is the shift: where the rows of a band start, and what stands there. Assumes nothing.
use mathlib.Core.Path.{◌≡◌, sym, ap, ◌∙◌}
use Prim.Native.Nat.{ℕ, ◌+◌, ◌-◌, ◌*◌, ◌<◌, ◌≤◌}
use native.Mathlib.Nat.{le_refl, le_of_eq, add-mul}
use native.Mathlib.Omega.{arith}
use mathlib.Core.List.{List}
use lib.IntN.{ℤ, pos, neg_ℤ, ◌+ℤ◌, ◌-ℤ◌, +ℤ_assoc}
use lib.ListN.{length, take, drop, length-drop}
use lib.Seq.{get_or-take, get_or-drop, length-take-le}
use lib.Ieee.{Float, nan, neg}
use Rattle.numbers.specs.Arithmetic.{plus, times, half64, quarter64}
use Rattle.numbers.specs.Residues.{wrap}
use Rattle.numbers.specs.Whole.{whole_of, fraction_of}
use Rattle.numbers.proofs.Residues.{wrap_lt}
use Rattle.lists.specs.Lists.{tab}
use Rattle.lists.specs.Floats.{at, sum_on}
use Rattle.lists.proofs.Cells.{cell_lt, row_end}
use Rattle.lists.proofs.Loops.{iter_same}
use Rattle.lists.proofs.Turns.{turns}
use Rattle.lists.proofs.Over.{joins_none, joins_done}
use Rattle.shape.specs.Cores.{Core, core_with, entry}
use Rattle.shape.proofs.Places.{entry_line, block_lines}
use Rattle.stepform.specs.Boundaries.{wrapped}
use Rattle.stepform.specs.Weights.{cubic_band_weights, band_on, shifted_at}
use Rattle.stepform.specs.Shifts.{shifted}
use Rattle.stepform.proofs.Boundaries.{wrapped_lt}
use Rattle.shift.specs.Starts.{nat_at, starts_of, StartRoom, band_in, entry_in}
use Rattle.shift.specs.Unrolled.{period, unrolled_of, block_of, blocks_of}
use Rattle.shift.proofs.Starts.{start_at}
use Rattle.shift.proofs.Unrolled.{period_least, unrolled_at, unrolled_front}

-- a list that has just its length has at least that
pub at_least : (a b : ℕ) → a ≡ b → b ≤ a
at_least a b e = le_of_eq (sym e)

-- rows that are written one after another
pub ruleset rows = (turns, joins_none, joins_done, at_least)

-- block k of h numbers, as it is lent
pub part_long : {A : Type 0} (l : List A) (k m h : ℕ) → k < m → length l ≡ m * h → length (take (k * h + h - k * h) (drop (k * h) l)) ≡ h
part_long l k m h p e =
    let s : k * h + h - k * h ≡ h = omega arith in
    rw s (length-take-le h (drop (k * h) l) (omega (arith, length-drop (k * h) l, row_end k m h (length l) p (at_least (length l) (m * h) e))))

-- a block is no longer than it is, written on
pub block_fits : (p n rr l : ℕ) → l ≡ (p + n) * rr → n * rr ≤ l
block_fits p n rr l e = omega (arith, add-mul p n rr)

-- p numbers are written of a block of h, from the starts' room in a list of q
pub room_for : (starts : List ℕ) (p q h l : ℕ) → p ≡ h → q ≡ l → h ≤ l → StartRoom starts h l → (p ≤ q) × StartRoom starts p q
room_for starts p q h l e f g r = (omega arith, λ m s. omega (arith, r m s))

pub block_shifted : (b : ℕ) (core t x : List Float) (k n rr w : ℕ) (forward backward : List Float) (ahead behind : List ℕ)
    → let h = n * rr in t ≡ unrolled_of b (take (k * h + h - k * h) (drop (k * h) core)) n rr → x ≡ tab w (entry_in t forward ahead backward behind) → w ≡ h
    → x ≡ tab h (entry_in (unrolled_of b (block_of core h k) n rr) forward ahead backward behind)
block_shifted b core t x k n rr w forward backward ahead behind e f l = let h = n * rr in let s : k * h + h - k * h ≡ h = omega arith in f ∙ rw (l, e, s)

-- ---- entry (k, i, x) of a core of rl blocks of n rows of rr
module _ (b : ℕ) (l : List Float) (rl n rr : ℕ) (long : length l ≡ rl * (n * rr)) (k i x : ℕ) (K : k < rl) (I : i < n) (X : x < rr) where
  abbrev B : List Float
  B = take (n * rr) (drop (k * (n * rr)) l)

  abbrev U : List Float
  U = unrolled_of b B n rr

  abbrev c : Core
  c = core_with rl n rr l

  abbrev p : ℕ
  p = period b n

  abbrev v : ℕ → Float
  v y = entry c k y x

  long_B : length B ≡ n * rr
  long_B = length-take-le (n * rr) (drop (k * (n * rr)) l) (omega (arith, length-drop (k * (n * rr)) l, row_end k rl (n * rr) (length l) K (le_of_eq (sym long))))

  at_B : (y : ℕ) → y < n → at B (y * rr + x) ≡ v y
  at_B y h =
      get_or-take (n * rr) (drop (k * (n * rr)) l) (y * rr + x) nan (cell_lt y n rr x (n * rr) h X (le_refl (n * rr)))
      ∙ get_or-drop (k * (n * rr)) l (y * rr + x) nan
      ∙ sym (entry_line rl n rr l k y x)

  read : (z : ℤ) → at U (wrap p z * rr + (i * rr + x)) ≡ v (wrapped b n (pos i +ℤ z))
  read z =
      unrolled_at B n rr long_B b i x z (omega arith) I X (wrap_lt p z (omega (arith, period_least b n)))
      ∙ at_B (wrapped b n (pos i +ℤ z)) (wrapped_lt b n (pos i +ℤ z) (omega arith))

  band_is : (acc : Float) (weights : List Float) (s0 : ℤ) → band_in acc U (i * rr + x) weights (starts_of p rr s0) 4 ≡ band_on acc (wrapped b n) weights s0 v i
  unfolding band_in band_on sum_on
  band_is acc weights s0 =
      iter_same 4 (λ (m : ℕ) (s : Float). plus s (times (times quarter64 (at weights m)) (at U (nat_at (starts_of p rr s0) m + (i * rr + x)))))
      (λ (m : ℕ) (s : Float). plus s (times (times quarter64 (at weights m)) (v (wrapped b n (pos i +ℤ s0 -ℤ pos 1 +ℤ pos m))))) acc
      (λ m s h.
      ap (λ (y : Float). plus s (times (times quarter64 (at weights m)) y))
      (ap (λ (j : ℕ). at U (j + (i * rr + x))) (start_at p rr s0 m h)
      ∙ read (s0 -ℤ pos 1 +ℤ pos m)
      ∙ ap (λ (z : ℤ). v (wrapped b n z)) (sym (+ℤ_assoc (pos i) (s0 -ℤ pos 1) (pos m)) ∙ ap (λ (z : ℤ). z +ℤ pos m) (sym (+ℤ_assoc (pos i) s0 (neg_ℤ (pos 1)))))))

  entry_is : (forward backward : List Float) (s0 s1 : ℤ) → entry_in U forward (starts_of p rr s0) backward (starts_of p rr s1) (i * rr + x) ≡ shifted_at (wrapped b n) forward s0 backward s1 v i
  unfolding entry_in shifted_at
  entry_is forward backward s0 s1 =
      let start : at U (i * rr + x) ≡ v i = unrolled_front B n rr long_B b i x I X ∙ at_B i I in
      band_is (band_in (times half64 (at U (i * rr + x))) U (i * rr + x) forward (starts_of p rr s0) 4) backward s1
      ∙ ap (λ (acc : Float). band_on acc (wrapped b n) backward s1 v i)
      (band_is (times half64 (at U (i * rr + x))) forward s0 ∙ ap (λ (y : Float). band_on (times half64 y) (wrapped b n) forward s0 v i) start)

-- THE SHIFT, of a core's numbers
pub blocks_are : (b : ℕ) (l : List Float) (rl n rr : ℕ) (ratio : Float) → length l ≡ rl * (n * rr)
    → let p = period b n in
    blocks_of b l rl n rr (cubic_band_weights (fraction_of ratio)) (starts_of p rr (whole_of ratio)) (cubic_band_weights (fraction_of (neg ratio))) (starts_of p rr (whole_of (neg ratio))) ≡ shifted (core_with rl n rr l) ratio b
unfolding blocks_of shifted
blocks_are b l rl n rr ratio long =
    let p = period b n in
    let forward = cubic_band_weights (fraction_of ratio) in
    let backward = cubic_band_weights (fraction_of (neg ratio)) in
    let s0 = whole_of ratio in
    let s1 = whole_of (neg ratio) in
    sym (block_lines rl n rr (λ (k i x : ℕ). shifted_at (wrapped b n) forward s0 backward s1 (λ (y : ℕ). entry (core_with rl n rr l) k y x) i)
    (λ (k : ℕ). entry_in (unrolled_of b (block_of l (n * rr) k) n rr) forward (starts_of p rr s0) backward (starts_of p rr s1))
    (λ k i x g q s. entry_is b l rl n rr long k i x g q s forward backward s0 s1))
