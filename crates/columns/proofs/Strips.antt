-- Loops down the rows of columns: pairs that are turned two at once, and runs of pairs one behind another. Assumes nothing.
use mathlib.Core.Path.{◌≡◌, refl, sym, ap, ◌∙◌}
use Prim.Native.Nat.{ℕ, ◌+◌, ◌*◌, ◌/◌, ◌%◌, ◌^◌, ◌<◌, ◌≤◌}
use native.Mathlib.Nat.{le_antisymm, mul-le-mul_right, suc-mul, zero-mul}
use native.Mathlib.Omega.{arith}
use mathlib.Core.List.{List}
use mir.Syntax.{w64}
use mir.Val.{Fits}
use lib.ListN.{length, set}
use lib.Seq.{get_or-set_other, set_comm}
use lib.Ieee.{Float, nan}
use Rattle.numbers.specs.Arithmetic.{plus, minus, times}
use Rattle.lists.specs.Lists.{iter}
use Rattle.lists.specs.Floats.{at}
use Rattle.lists.proofs.Cells.{exacts, exact_end}
use Rattle.lists.proofs.Loops.{iter_same, iter_add}
use Rattle.lists.proofs.Turns.{turns}
use Rattle.rotation.specs.Pairs.{turn_pair, turn_pairs}

-- a loop down the rows
pub ruleset down = (turns, exacts)

-- where columns p and q of n end: the first before the second, and the second in the list
pub columns_apart : (m n p q l : ℕ) → l ≡ n * m → p < q → q < n → (p * m + m ≤ q * m) × (q * m + m ≤ l)
columns_apart m n p q l e h g = (omega (arith, mul-le-mul_right m h, suc-mul p m), exact_end q n m l e g)

-- row k of either, or the end
module _ (m n p q l k : ℕ) (e : l ≡ n * m) (h : p < q) (g : q < n) (b : k ≤ m) (s : l < 2 ^ 64) where
  pub first_fits : Fits w64 (p * m + k)
  first_fits = record { fits = omega (arith, columns_apart m n p q l e h g) }

  pub second_fits : Fits w64 (q * m + k)
  second_fits = record { fits = omega (arith, columns_apart m n p q l e h g) }

module _ (i j : ℕ) (c s : Float) (l : List Float) where
  -- a run of n pairs behind one of m
  pub runs_joined : (m n : ℕ) (t u : List Float) → t ≡ turn_pairs m 1 i j c s l → u ≡ turn_pairs n 1 (i + m) (j + m) c s t → u ≡ turn_pairs (m + n) 1 i j c s l
  unfolding turn_pairs
  runs_joined m n t u e d =
      let f : ℕ → List Float → List Float = λ r. turn_pair (r * 1 + i) (r * 1 + j) c s in
      let g : ℕ → List Float → List Float = λ r. turn_pair (r * 1 + (i + m)) (r * 1 + (j + m)) c s in
      d ∙ ap (iter n g) e
      ∙ iter_same n g (λ (r : ℕ). f (m + r)) (iter m f l)
      (λ r x h. let a : r * 1 + (i + m) ≡ (m + r) * 1 + i = omega arith in let b : r * 1 + (j + m) ≡ (m + r) * 1 + j = omega arith in rw (a, b))
      ∙ sym (iter_add m n f l)

  pub eight_turned : (t u v w : List Float) → t ≡ turn_pairs 2 1 i j c s l → u ≡ turn_pairs 2 1 (i + 2) (j + 2) c s t → v ≡ turn_pairs 2 1 (i + 4) (j + 4) c s u → w ≡ turn_pairs 2 1 (i + 6) (j + 6) c s v → w ≡ turn_pairs 8 1 i j c s l
  eight_turned t u v w a b d e = runs_joined 6 2 v w (runs_joined 4 2 u v (runs_joined 2 2 t u a b) d) e

  pub strip_turned : (t u : List Float) → t ≡ turn_pairs 8 1 i j c s l → u ≡ turn_pairs 8 1 (i + 8) (j + 8) c s t → u ≡ turn_pairs 16 1 i j c s l
  strip_turned t u a b = runs_joined 8 8 t u a b

  -- strips, then two at a time, then the last
  pub all_turned : (m : ℕ) (t u v : List Float) → t ≡ turn_pairs (m / 16 * 16) 1 i j c s l → u ≡ turn_pairs (m % 16 / 2 * 2) 1 (i + m / 16 * 16) (j + m / 16 * 16) c s t
      → v ≡ turn_pairs (m % 2) 1 (i + m / 2 * 2) (j + m / 2 * 2) c s u → v ≡ turn_pairs m 1 i j c s l
  all_turned m t u v e d f =
      let y : m / 2 * 2 ≡ m / 16 * 16 + m % 16 / 2 * 2 = omega arith in
      let z : m ≡ m / 2 * 2 + m % 2 = omega arith in
      let even : u ≡ turn_pairs (m / 2 * 2) 1 i j c s l = rw y (runs_joined (m / 16 * 16) (m % 16 / 2 * 2) t u e d) in
      runs_joined (m / 2 * 2) (m % 2) u v even f ∙ ap (λ (k : ℕ). turn_pairs k 1 i j c s l) (sym z)

  -- two pairs at once: all four numbers read before one is stored
  pub two_turned : (u : List Float) → i + 2 ≤ j
      → u ≡ set (set (set (set l i (minus (times c (at l i)) (times s (at l j))))
      (i + 1) (minus (times c (at l (i + 1))) (times s (at l (j + 1)))))
      j (plus (times s (at l i)) (times c (at l j))))
      (j + 1) (plus (times s (at l (i + 1))) (times c (at l (j + 1))))
      → u ≡ turn_pairs 2 1 i j c s l
  unfolding turn_pairs turn_pair
  two_turned u h e =
      let first = minus (times c (at l i)) (times s (at l j)) in
      let third = plus (times s (at l i)) (times c (at l j)) in
      let second = minus (times c (at l (i + 1))) (times s (at l (j + 1))) in
      let fourth = plus (times s (at l (i + 1))) (times c (at l (j + 1))) in
      let k = set (set l i first) j third in
      let x : at k (i + 1) ≡ at l (i + 1) = get_or-set_other (set l i first) j (i + 1) third nan (λ d. omega arith) ∙ get_or-set_other l i (i + 1) first nan (λ d. omega arith) in
      let y : at k (j + 1) ≡ at l (j + 1) = get_or-set_other (set l i first) j (j + 1) third nan (λ d. omega arith) ∙ get_or-set_other l i (j + 1) first nan (λ d. omega arith) in
      let i0 : 0 + i ≡ i = omega arith in
      let j0 : 0 + j ≡ j = omega arith in
      let i1 : 1 + i ≡ i + 1 = omega arith in
      let j1 : 1 + j ≡ j + 1 = omega arith in
      e ∙ ap (λ (t : List Float). set t (j + 1) fourth) (set_comm (set l i first) (i + 1) j second third (λ d. omega arith)) ∙ rw (i0, j0, i1, j1, x, y)

-- ---- the loop over n runs of w pairs each
module _ (w n i j : ℕ) (c s : Float) (l : List Float) where
  -- t is what the first k runs leave
  pub record RunsTurned (k : ℕ) (t : List Float) : Type 0 where
    pub most : k ≤ n
    pub long : length t ≡ length l
    pub turned : t ≡ turn_pairs (k * w) 1 i j c s l

  pub runs_none : RunsTurned 0 l
  unfolding turn_pairs
  runs_none = record { most = omega arith; long = refl; turned = rw (zero-mul w) refl }

  module _ (k : ℕ) (t : List Float) (r : RunsTurned k t) where
    pub runs_more : (u : List Float) → k < n → length u ≡ length t → u ≡ turn_pairs w 1 (i + k * w) (j + k * w) c s t → RunsTurned (k + 1) u
    runs_more u h e d =
        let z : (k + 1) * w ≡ k * w + w = omega arith in
        record { most = omega arith; long = e ∙ r.long; turned = rw z (runs_joined i j c s l (k * w) w t u r.turned d) }

    pub runs_done : n ≤ k → t ≡ turn_pairs (n * w) 1 i j c s l
    runs_done h = rw (le_antisymm h r.most) r.turned

pub ruleset runs = (runs_none, runs_more, runs_done)
