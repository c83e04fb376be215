-- A core's numbers as the rows of a matrix: the Gram matrix and the absorbed core are products. Assumes nothing.
use mathlib.Core.Path.{◌≡◌, sym, ap, ◌∙◌}
use Prim.Native.Nat.{ℕ, ◌+◌, ◌*◌, ◌≤◌}
use native.Mathlib.Nat.{mul-one, mul_assoc, mul-pos, le_of_eq, le_refl, mul-le-mul_right}
use native.Mathlib.Omega.{arith}
use mathlib.Core.List.{List, ◌++◌, append-nil}
use lib.ListN.{length, take, drop, drop_of_length-le}
use lib.Seq.{get_or-take}
use lib.Ieee.{Float, nan}
use Rattle.numbers.specs.Arithmetic.{times}
use Rattle.lists.specs.Floats.{at, cell, sum_to}
use Rattle.lists.proofs.Cells.{cell_lt}
use Rattle.lists.proofs.Tables.{grid_same}
use Rattle.lists.proofs.Sums.{sum_same, sum_rows_lem}
use Rattle.shape.specs.Cores.{core_with, entry}
use Rattle.shape.proofs.Places.{entry_row, entry_line, block_lines}
use Rattle.bond.specs.Products.{dot_at, product_of}
use Rattle.cutform.specs.Bonds.{gram, absorb}

-- ---- sizes: a row and a line are at most all
pub row_most : (rl n rr l : ℕ) → l ≡ rl * n * rr → 1 ≤ rl → 1 ≤ n → rr ≤ l
row_most rl n rr l e a b = omega (arith, mul-le-mul_right rr (mul-pos a b))

pub line_most : (rl n rr l : ℕ) → l ≡ rl * n * rr → 1 ≤ rl → n * rr ≤ l
line_most rl n rr l e a = omega (arith, mul-le-mul_right (n * rr) a)

-- ---- products
module _ (rl n rr : ℕ) (a : List Float) where
  -- rows times rows
  pub gram_is : (g u : List Float) → u ≡ product_of a 1 rr a rr (rl * n) rr ++ drop (rr * rr) g → length g ≡ rr * rr → u ≡ gram (core_with rl n rr a)
  unfolding gram product_of dot_at
  gram_is g u e l =
      e ∙ rw (drop_of_length-le g (le_of_eq l), append-nil)
      (grid_same rr rr (λ (i j : ℕ). dot_at a (i * 1) rr a rr (rl * n) j) _
      (λ i j p q. ap (λ (x : ℕ). dot_at a x rr a rr (rl * n) j) (mul-one i)
      ∙ sym (sum_rows_lem rl n (λ (il im : ℕ). times (entry (core_with rl n rr a) il im i) (entry (core_with rl n rr a) il im j)) (λ (k : ℕ). times (at a (k * rr + i)) (at a (k * rr + j)))
      (λ il im s t. rw (entry_row rl n rr a il im i, entry_row rl n rr a il im j)))))

  -- the carry's rows times the core's lines
  pub absorb_is : (r : ℕ) (b o u : List Float) → u ≡ product_of b rl 1 a (n * rr) rl r ++ drop (r * (n * rr)) o → u ≡ absorb r (take (r * rl) b) (core_with rl n rr a) ++ drop (r * n * rr) o
  unfolding absorb product_of dot_at
  absorb_is r b o u e =
      e ∙ rw (mul_assoc r n rr)
      (ap (λ (l : List Float). l ++ drop (r * (n * rr)) o)
      (sym (block_lines r n rr (λ (il im ir : ℕ). sum_to rl (λ (k : ℕ). times (cell rl (take (r * rl) b) il k) (entry (core_with rl n rr a) k im ir))) (λ (i j : ℕ). dot_at b (i * rl) 1 a (n * rr) rl j)
      (λ il im ir p q s. sum_same rl (λ (k : ℕ). times (at b (k * 1 + il * rl)) (at a (k * (n * rr) + (im * rr + ir)))) (λ (k : ℕ). times (cell rl (take (r * rl) b) il k) (entry (core_with rl n rr a) k im ir))
      (λ k t. let z : k * 1 + il * rl ≡ il * rl + k = omega arith in
      rw (entry_line rl n rr a k im ir, get_or-take (r * rl) b (il * rl + k) nan (cell_lt il r rl k (r * rl) p t (le_refl (r * rl))), z))))))
