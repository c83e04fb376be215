-- A block written on: by which parts it is written for either boundary, and what stands in it. Assumes nothing.
use mathlib.Core.Path.{◌≡◌, sym, ap, ◌∙◌}
use Prim.Native.Nat.{ℕ, suc, ◌+◌, ◌-◌, ◌*◌, ◌^◌, ◌<◌, ◌≤◌}
use native.Mathlib.Nat.{add_comm, add-mul, mul_assoc, suc-mul, mul-le-mul_right}
use native.Mathlib.Omega.{arith}
use mathlib.Core.Bool.{Bool, true, false}
use mathlib.Core.List.{List, ◌++◌, append-nil, append_assoc}
use borrow.Author.Tests.{ne_eqb}
use lib.Dec.{eqb}
use lib.IntN.{ℤ, pos, ◌+ℤ◌}
use lib.ListN.{length, take, drop, length-append, length-drop, drop_of_length-le}
use lib.Seq.{get_or-take, get_or-drop, length-take-le, take_at, drop_at}
use lib.Ieee.{Float, nan}
use Rattle.numbers.specs.Residues.{wrap}
use Rattle.numbers.proofs.Residues.{wrap_plus, wrap_around}
use Rattle.lists.specs.Lists.{pick, tab, joined, grid}
use Rattle.lists.specs.Floats.{at}
use Rattle.lists.proofs.Parts.{part_count}
use Rattle.lists.proofs.Tables.{length_grid, get_or_grid_lem, grid_is, grid_same, tab_is, joined_add}
use Rattle.shape.specs.Limits.{most_points}
use Rattle.stepform.specs.Boundaries.{reflecting, reflected, wrapped}
use Rattle.stepform.proofs.Boundaries.{wrapped_inside, mirror_last, mirror_again}
use Rattle.shift.specs.Unrolled.{period, backwards_of, unrolled_of}

-- ---- the period
module _ (b n : ℕ) where
  pub period_reflecting : b ≡ reflecting → 2 * n ≡ period b n
  unfolding period pick
  period_reflecting e = rw e

  pub period_other : ¬ (b ≡ reflecting) → n ≡ period b n
  unfolding period pick
  period_other h = rw (ne_eqb b reflecting h)

  -- how long a block of l numbers gets, written on
  pub long_reflecting : (rr l d : ℕ) → b ≡ reflecting → l ≡ n * rr → d ≡ (period b n + n) * rr → d ≡ l + (l + l)
  long_reflecting rr l d e f g =
      let h : (period b n + n) * rr ≡ (2 * n + n) * rr = ap (λ (p : ℕ). (p + n) * rr) (sym (period_reflecting e)) in
      omega (arith, add-mul (2 * n) n rr, mul_assoc 2 n rr)

  pub long_other : (rr l d : ℕ) → ¬ (b ≡ reflecting) → l ≡ n * rr → d ≡ (period b n + n) * rr → d ≡ l + l
  long_other rr l d e f g =
      let h : (period b n + n) * rr ≡ (n + n) * rr = ap (λ (p : ℕ). (p + n) * rr) (sym (period_other e)) in
      omega (arith, add-mul n n rr)

  pub period_least : n ≤ period b n
  unfolding period pick
  period_least = go (eqb b reflecting)
    where
      go : (p : Bool) → n ≤ pick p (2 * n) n
      go true = omega arith
      go false = omega arith

  pub period_most : period b n ≤ 2 * n
  unfolding period pick
  period_most = go (eqb b reflecting)
    where
      go : (p : Bool) → pick p (2 * n) n ≤ 2 * n
      go true = omega arith
      go false = omega arith

  -- p is the period of an axis whose block has room, three times
  module _ (p : ℕ) (e : p ≡ period b n) where
    pub period_some : 1 ≤ n → 1 ≤ p
    period_some h = omega (arith, period_least)

    pub period_few : n ≤ most_points → p ≤ 2 * most_points
    period_few h = omega (arith, period_most)

    pub written_fits : (rr l : ℕ) → 3 * (n * rr) ≤ l → (p + n) * rr ≤ l
    written_fits rr l h = omega (arith, mul-le-mul_right rr period_most, mul_assoc 2 n rr, add-mul p n rr, ap (λ (k : ℕ). k * rr) e)

    pub period_fits : (rr l : ℕ) → 3 * (n * rr) ≤ l → l < 2 ^ 64 → p * rr < 2 ^ 64
    period_fits rr l h g = omega (arith, written_fits rr l h, add-mul p n rr)

  -- the i-th after an index, within one period, is the i-th after that index
  pub wrapped_from : (i : ℕ) (z : ℤ) → 0 < n → wrapped b n (pos (wrap (period b n) z + i)) ≡ wrapped b n (pos i +ℤ z)
  unfolding wrapped period pick wrap
  wrapped_from i z h = go (eqb b reflecting)
    where
      again : (m : ℕ) → 0 < m → wrap m (pos (wrap m z + i)) ≡ wrap m (pos i +ℤ z)
      again m l = ap (λ (x : ℕ). wrap m (pos x)) (add_comm (wrap m z) i) ∙ sym (wrap_plus m i z l)

      go : (p : Bool) → pick p (reflected n (wrap (2 * n) (pos (wrap (pick p (2 * n) n) z + i)))) (wrap n (pos (wrap (pick p (2 * n) n) z + i)))
          ≡ pick p (reflected n (wrap (2 * n) (pos i +ℤ z))) (wrap n (pos i +ℤ z))
      go true = ap (reflected n) (again (2 * n) (omega arith))
      go false = again n h

-- ---- two parts of a list, lent one after the other
pub parts_are : {A : Type 0} (a b d u w : List A) (h : ℕ) → length a ≡ h → u ≡ a → w ≡ b → take h (u ++ drop h d) ++ (w ++ drop (length (u ++ drop h d) - h) (drop h (u ++ drop h d))) ≡ a ++ b
parts_are a b d u w h long e f =
    let rest = drop h d in
    let z : length rest ≤ length (a ++ rest) - h = omega (arith, length-append a rest) in
    rw (e, f, take_at a rest h long, drop_at a rest h long, drop_of_length-le rest z, append-nil)

-- how long the second of them is
pub behind_long : {A : Type 0} (u d : List A) (h m : ℕ) → length u ≡ h → length d ≡ h + m → length (take (length (u ++ drop h d) - h) (drop h (u ++ drop h d))) ≡ m
behind_long u d h m long e =
    let rest = drop h d in
    let r : length rest ≡ m = length-drop h d ∙ omega arith in
    let n : length (u ++ rest) - h ≡ m = omega (arith, length-append u rest) in
    rw (drop_at u rest h long, n) (length-take-le m rest (omega arith))

-- ---- parts of two lists that are as long as each other
pub even_parts : {A : Type 0} (s d : List A) (from a to b : ℕ) → a ≡ b → from + a ≤ length s → to + b ≤ length d → length (take a (drop from s)) ≡ length (take b (drop to d))
even_parts s d from a to b e f g =
    length-take-le a (drop from s) (omega (arith, length-drop from s)) ∙ e ∙ sym (length-take-le b (drop to d) (omega (arith, length-drop to d)))

-- ---- the rows backwards: what is copied to row q
pub row_back : (s : List Float) (n rr q : ℕ) → length s ≡ n * rr → q < n
    → take (length s - q * rr - (length s - (q * rr + rr))) (drop (length s - (q * rr + rr)) s) ≡ tab rr (λ (x : ℕ). at s ((n - suc q) * rr + x))
row_back s n rr q long l =
    let from = (n - suc q) * rr in
    let all : n * rr ≡ from + (q * rr + rr) = ap (λ (k : ℕ). k * rr) (omega arith) ∙ add-mul (n - suc q) (suc q) rr ∙ ap (λ (k : ℕ). from + k) (suc-mul q rr) in
    let start : length s - (q * rr + rr) ≡ from = omega arith in
    let size : length s - q * rr - from ≡ rr = omega arith in
    rw (start, size)
    (tab_is rr (λ (x : ℕ). at s (from + x)) nan (take rr (drop from s)) (length-take-le rr (drop from s) (omega (arith, length-drop from s)))
    (λ x m. get_or-take rr (drop from s) x nan m ∙ get_or-drop from s x nan))

pub backwards_length : (s : List Float) (n rr : ℕ) → length s ≡ n * rr → length (backwards_of s n rr) ≡ length s
unfolding backwards_of
backwards_length s n rr long = length_grid n rr (λ (q x : ℕ). at s ((n - suc q) * rr + x)) ∙ sym long

-- ---- a block by its parts
module _ (s : List Float) (n rr : ℕ) (long : length s ≡ n * rr) where
  -- rows that are those of s in turn
  rows_are : (f : ℕ → ℕ) → ((q : ℕ) → q < n → f q ≡ q) → grid n rr (λ (q x : ℕ). at s (f q * rr + x)) ≡ s
  rows_are f h = sym (grid_is n rr (λ (q x : ℕ). at s (f q * rr + x)) nan s long (λ q x l m. ap (λ (k : ℕ). at s (k * rr + x)) (sym (h q l))))

  module _ (b : ℕ) where
    abbrev row : ℕ → List Float
    row q = tab rr (λ (x : ℕ). at s (wrapped b n (pos q) * rr + x))

    first_rows : joined n row ≡ s
    first_rows = rows_are (λ (q : ℕ). wrapped b n (pos q)) (λ q l. wrapped_inside b n q l)

  pub unrolled_reflecting : (b : ℕ) → 0 < n → b ≡ reflecting → s ++ (backwards_of s n rr ++ s) ≡ unrolled_of b s n rr
  unfolding unrolled_of backwards_of
  unrolled_reflecting b some e =
      let w = wrapped reflecting n in
      let back : joined n (λ (q : ℕ). row reflecting (n + q)) ≡ backwards_of s n rr =
      grid_same n rr (λ (q x : ℕ). at s (w (pos (n + q)) * rr + x)) (λ (q x : ℕ). at s ((n - suc q) * rr + x)) (λ q x l m. ap (λ (k : ℕ). at s (k * rr + x)) (mirror_last n q l)) in
      let again : joined n (λ (q : ℕ). row reflecting (n + n + q)) ≡ s =
      rows_are (λ (q : ℕ). w (pos (n + n + q))) (λ q l. ap (λ (k : ℕ). w (pos k)) (omega arith) ∙ mirror_again n (pos q) some ∙ wrapped_inside reflecting n q l) in
      let rows : period b n + n ≡ n + n + n = omega (arith, period_reflecting b n e) in
      sym
      (ap (λ (c : ℕ). grid (period b n + n) rr (λ (q x : ℕ). at s (wrapped c n (pos q) * rr + x))) e
      ∙ ap (λ (k : ℕ). joined k (row reflecting)) rows
      ∙ joined_add (n + n) n (row reflecting)
      ∙ ap (λ (l : List Float). l ++ joined n (λ (q : ℕ). row reflecting (n + n + q))) (joined_add n n (row reflecting))
      ∙ append_assoc (joined n (row reflecting)) (joined n (λ (q : ℕ). row reflecting (n + q))) (joined n (λ (q : ℕ). row reflecting (n + n + q)))
      ∙ rw (first_rows reflecting, back, again))

  around : (b q : ℕ) → 0 < n → ¬ (b ≡ reflecting) → wrapped b n (pos (n + q)) ≡ wrapped b n (pos q)
  unfolding wrapped pick
  around b q some h = rw (ne_eqb b reflecting h) (ap (λ (k : ℕ). wrap n (pos k)) (add_comm n q) ∙ wrap_around n (pos q) some)

  pub unrolled_other : (b : ℕ) → 0 < n → ¬ (b ≡ reflecting) → s ++ s ≡ unrolled_of b s n rr
  unfolding unrolled_of
  unrolled_other b some h =
      let once : (q : ℕ) → q < n → wrapped b n (pos (n + q)) ≡ q = λ q l. around b q some h ∙ wrapped_inside b n q l in
      let again : joined n (λ (q : ℕ). row b (n + q)) ≡ s = rows_are (λ (q : ℕ). wrapped b n (pos (n + q))) once in
      let rows : period b n + n ≡ n + n = omega (arith, period_other b n h) in
      sym (ap (λ (k : ℕ). joined k (row b)) rows ∙ joined_add n n (row b) ∙ rw (first_rows b, again))

  -- number x of the i-th row after a start
  pub unrolled_at : (b i x : ℕ) (z : ℤ) → 0 < n → i < n → x < rr → wrap (period b n) z < period b n → at (unrolled_of b s n rr) (wrap (period b n) z * rr + (i * rr + x)) ≡ at s (wrapped b n (pos i +ℤ z) * rr + x)
  unfolding unrolled_of
  unrolled_at b i x z some l m g =
      let o = wrap (period b n) z in
      let e : o * rr + (i * rr + x) ≡ (o + i) * rr + x = omega (arith, add-mul o i rr) in
      ap (at (unrolled_of b s n rr)) e
      ∙ get_or_grid_lem (period b n + n) rr (λ (q y : ℕ). at s (wrapped b n (pos q) * rr + y)) (o + i) x nan (omega arith) m
      ∙ ap (λ (k : ℕ). at s (k * rr + x)) (wrapped_from b n i z some)

  -- the block stands at its front
  pub unrolled_front : (b i x : ℕ) → i < n → x < rr → at (unrolled_of b s n rr) (i * rr + x) ≡ at s (i * rr + x)
  unfolding unrolled_of
  unrolled_front b i x l m =
      get_or_grid_lem (period b n + n) rr (λ (q y : ℕ). at s (wrapped b n (pos q) * rr + y)) i x nan (omega (arith, period_least b n)) m
      ∙ ap (λ (k : ℕ). at s (k * rr + x)) (wrapped_inside b n i l)

pub ruleset periods = (period_reflecting, period_other)

pub ruleset unrolling = (long_reflecting, long_other, unrolled_reflecting, unrolled_other)

pub ruleset in_parts = (part_count, parts_are, backwards_length, behind_long)
