-- The left factor and the carry, column by column and row by row. Assumes nothing.
use mathlib.Core.Path.{◌≡◌, refl, sym, ap, ◌∙◌}
use mathlib.Core.Logic.{⊎_elim}
use Prim.Native.Nat.{ℕ, zero, suc, ◌+◌, ◌-◌, ◌*◌, ◌<◌, ◌≤◌}
use native.Mathlib.Nat.{not-suc-le-zero, le_of_suc-le-suc, le_of_eq, le_refl, eq-or-lt_of_le, mul_comm, mul-le-mul_left, sub-zero}
use native.Mathlib.Omega.{arith}
use mathlib.Core.Bool.{Bool, true, false}
use mathlib.Core.List.{List, ◌++◌}
use lib.ListN.{length, get_or, set, take, drop}
use lib.Ieee.{Float, nan}
use Rattle.std.specs.Prelude.{Ok, Err}
use Rattle.answers.specs.Outcome.{Made, bind, staged, stage_of, Stage}
use Rattle.numbers.specs.Arithmetic.{times, over, zero64}
use Rattle.lists.specs.Lists.{iter, grid, pick}
use Rattle.lists.specs.Floats.{at, cell, stored}
use Rattle.lists.proofs.Altered.{altered_length, altered_other, altered_at}
use Rattle.lists.proofs.Cells.{cell_lt, cell_row, cell_column}
use Rattle.lists.proofs.Loops.{iter_same}
use Rattle.lists.proofs.Parts.{part_again, span_again, span_length}
use Rattle.lists.proofs.Stages.{stored_staged, staged_on, staged_stop, staged_last}
use Rattle.lists.proofs.Sums.{sum_same}
use Rattle.lists.proofs.Tables.{iter_keeps, grid_is, grid_same, length_grid, get_or_grid_lem}
use Rattle.lists.proofs.Turns.{iter_done}
use Rattle.shape.specs.Cores.{Core, core_with, entry}
use Rattle.shape.proofs.Places.{entry_row, block_rows}
use Rattle.cutform.specs.Modes.{divided}
use Rattle.cutform.specs.Factors.{left_factor, carry_of}
use Rattle.bond.specs.Products.{dot_at, product_of}
use Rattle.bond.specs.FactorRows.{Factors, factors_of, Columns, gathered, finished, finish_column, left_rows, carry_rows}

-- ---- one column: by the test on its value
module _ (mode m r j : ℕ) (value : Float) (l u : List Float) (b : Bool) (eb : b ≡ divided mode value) where
  pub finish_divided : b ≡ true → u ≡ iter m (λ (i : ℕ) (t : List Float). set t (i * r + j) (over (at t (i * r + j)) value)) l → u ≡ finish_column mode m r j value l
  unfolding finish_column finished pick
  finish_divided h e =
      let d : divided mode value ≡ true = sym eb ∙ h in
      e ∙ iter_same m (λ (i : ℕ) (t : List Float). set t (i * r + j) (over (at t (i * r + j)) value)) (λ (i : ℕ) (t : List Float). set t (i * r + j) (finished mode value (at t (i * r + j)))) l (λ i t g. rw d)

  pub finish_cleared : b ≡ false → u ≡ iter m (λ (i : ℕ) (t : List Float). set t (i * r + j) zero64) l → u ≡ finish_column mode m r j value l
  unfolding finish_column finished pick
  finish_cleared h e =
      let d : divided mode value ≡ false = sym eb ∙ h in
      e ∙ iter_same m (λ (i : ℕ) (t : List Float). set t (i * r + j) zero64) (λ (i : ℕ) (t : List Float). set t (i * r + j) (finished mode value (at t (i * r + j)))) l (λ i t g. rw d)

-- ---- column after column of m rows of r
module _ (mode m r : ℕ) (ss l : List Float) (long : length l ≡ m * r) where
  -- after k columns
  abbrev to : ℕ → List Float
  to k = iter k (λ (j : ℕ). finish_column mode m r j (at ss j)) l

  column_length : (j : ℕ) (value : Float) (t : List Float) → length (finish_column mode m r j value t) ≡ length t
  unfolding finish_column
  column_length j value t = altered_length nan (λ (i : ℕ). i * r + j) (λ i x. finished mode value x) t m

  to_length : (k : ℕ) → length (to k) ≡ m * r
  to_length k = iter_keeps (λ (t : List Float). length t ≡ m * r) (λ (j : ℕ). finish_column mode m r j (at ss j)) l long (λ j t e. column_length j (at ss j) t ∙ e) k

  column_at : (k : ℕ) → k < r → (i : ℕ) → i < m → at (to (suc k)) (i * r + k) ≡ finished mode (at ss k) (at (to k) (i * r + k))
  unfolding finish_column
  column_at k h i a =
      altered_at nan (λ (x : ℕ). x * r + k) (λ x y. finished mode (at ss k) y) (to k) m (λ x y p q e. cell_row x y r k k h h e) (λ x p. cell_lt x m r k (length (to k)) p h (le_of_eq (sym (to_length k)))) m i (le_refl m) a

  column_other : (k j : ℕ) → k < r → j < r → ¬ (j ≡ k) → (i : ℕ) → at (to (suc k)) (i * r + j) ≡ at (to k) (i * r + j)
  unfolding finish_column
  column_other k j h g d i = altered_other nan (λ (x : ℕ). x * r + k) (λ x y. finished mode (at ss k) y) (to k) m (i * r + j) (λ x p e. d (cell_column i x r j k g h e))

  later : (k j : ℕ) → k ≤ j → j < r → (i : ℕ) → at (to k) (i * r + j) ≡ at l (i * r + j)
  later zero j p g i = refl
  later (suc k) j p g i = column_other k j (omega arith) g (λ e. omega arith) i ∙ later k j (omega arith) g i

  done_at : (k j : ℕ) → k ≤ r → j < k → (i : ℕ) → i < m → at (to k) (i * r + j) ≡ finished mode (at ss j) (at l (i * r + j))
  done_at zero j p g i a = absurd (not-suc-le-zero g)
  done_at (suc k) j p g i a =
      ⊎_elim
      (λ q. rw q (column_at k p i a ∙ ap (finished mode (at ss k)) (later k k (le_refl k) p i)))
      (λ q. column_other k j p (omega arith) (λ e. omega arith) i ∙ done_at k j (omega arith) q i a)
      (eq-or-lt_of_le (le_of_suc-le-suc g))

  pub finish_done : (k : ℕ) (u : List Float) → u ≡ to k → k ≤ r → r ≤ k → u ≡ grid m r (λ (i j : ℕ). finished mode (at ss j) (cell r l i j))
  finish_done k u e p q =
      iter_done (λ (j : ℕ). finish_column mode m r j (at ss j)) l k r u e p q
      ∙ grid_is m r (λ (i j : ℕ). finished mode (at ss j) (cell r l i j)) nan (to r) (to_length r) (λ i j a b. done_at r j (le_refl r) b i a)

-- ---- the left factor: rows copied, multiplied, finished and stored
pub grid_long : (m r : ℕ) (f : ℕ → ℕ → Float) (l : List Float) → l ≡ grid m r f → length l ≡ m * r
grid_long m r f l e = ap length e ∙ length_grid m r f

module _ (m n r : ℕ) (columns core : List Float) where
  pub multiply_is : (ys rest u : List Float) → ys ≡ core → u ≡ product_of (take (length core - 0) (ys ++ rest)) n 1 columns r n m ++ drop (m * r) core → u ≡ product_of core n 1 columns r n m ++ drop (m * r) core
  multiply_is ys rest u e d = d ∙ ap (λ (x : List Float). product_of x n 1 columns r n m ++ drop (m * r) core) (span_again (length core) ys rest (ap length e) ∙ e)

  pub left_is : (mode : ℕ) (ss u f rest : List Float) (s : Stage) → u ≡ product_of core n 1 columns r n m ++ drop (m * r) core
      → f ≡ grid m r (λ (i j : ℕ). finished mode (at ss j) (cell r (take (m * r - 0) u) i j))
      → s ≡ stage_of (stored (take (m * r - 0) (f ++ rest)))
      → stored (left_rows mode m n r columns ss core) ≡ staged s (take (m * r) (f ++ rest))
  unfolding product_of left_rows
  left_is mode ss u f rest s eu ef es =
      let P = product_of core n 1 columns r n m in
      let long : length P ≡ m * r = length_grid m r (λ (i j : ℕ). dot_at core (i * n) 1 columns r n j) in
      let part : take (m * r - 0) u ≡ P = ap (take (m * r - 0)) eu ∙ span_again (m * r) P (drop (m * r) core) long in
      let len = grid_long m r (λ (i j : ℕ). finished mode (at ss j) (cell r (take (m * r - 0) u) i j)) f ef in
      let is : left_rows mode m n r columns ss core ≡ f =
      sym (ef ∙ grid_same m r (λ (i j : ℕ). finished mode (at ss j) (cell r (take (m * r - 0) u) i j)) (λ (i j : ℕ). finished mode (at ss j) (dot_at core (i * n) 1 columns r n j))
      (λ i j a b. ap (finished mode (at ss j)) (ap (λ (x : List Float). at x (i * r + j)) part ∙ get_or_grid_lem m r (λ (i j : ℕ). dot_at core (i * n) 1 columns r n j) i j nan a b))) in
      ap stored is
      ∙ stored_staged f s (es ∙ ap (λ (x : List Float). stage_of (stored x)) (span_again (m * r) f rest len))
      ∙ ap (staged s) (sym (part_again (m * r) f rest len))

-- ---- with the basis' columns gathered, these are the left factor and the carry
module _ (mode rl n rr r : ℕ) (core v : List Float) (js : List ℕ) (ss columns : List Float) (ec : columns ≡ gathered rr r js v) where
  column : (k j : ℕ) → k < rr → j < r → at columns (k * r + j) ≡ cell rr v k (get_or js j 0)
  unfolding gathered
  column k j a b = ap (λ (x : List Float). at x (k * r + j)) ec ∙ get_or_grid_lem rr r (λ (k j : ℕ). cell rr v k (get_or js j 0)) k j nan a b

  left_rows_lem : left_rows mode (rl * n) rr r columns ss core ≡ left_factor mode (core_with rl n rr core) r ss js v
  unfolding left_rows left_factor finished dot_at
  left_rows_lem =
      sym (block_rows rl n r _ (λ (i j : ℕ). finished mode (at ss j) (dot_at core (i * rr) 1 columns r rr j))
      (λ il im j a b c. ap (finished mode (at ss j))
      (sum_same rr (λ (k : ℕ). times (at core (k * 1 + (il * n + im) * rr)) (at columns (k * r + j))) (λ (k : ℕ). times (entry (core_with rl n rr core) il im k) (cell rr v k (get_or js j 0)))
      (λ k d. let z : k * 1 + (il * n + im) * rr ≡ (il * n + im) * rr + k = omega arith in rw (z, entry_row rl n rr core il im k, column k j d c)))))

  carry_rows_lem : carry_rows rr r columns ss ≡ carry_of rr r ss js v
  unfolding carry_rows carry_of
  carry_rows_lem = grid_same r rr (λ (i j : ℕ). times (at ss i) (at columns (j * r + i))) (λ (i j : ℕ). times (at ss i) (cell rr v j (get_or js i 0))) (λ i j a b. ap (times (at ss i)) (column j i b a))

  module _ (left : List Float) (s : Stage) (el : stored (left_rows mode (rl * n) rr r columns ss core) ≡ staged s left) where
    opened : factors_of mode (core_with rl n rr core) r ss js v ≡ bind (staged s left) (λ u. bind (stored (carry_of rr r ss js v)) (λ b. Ok (record { left = u; carry = b })))
    unfolding factors_of
    opened = ap (λ (o : Made (List Float)). bind o (λ u. bind (stored (carry_of rr r ss js v)) (λ b. Ok (record { left = u; carry = b })))) (ap stored (sym left_rows_lem) ∙ el)

    pub factors_stop : (i : ℕ) (f : Factors) → s ≡ Err i → factors_of mode (core_with rl n rr core) r ss js v ≡ staged (Err i) f
    factors_stop i f h = opened ∙ staged_stop s left (λ u. bind (stored (carry_of rr r ss js v)) (λ b. Ok (record { left = u; carry = b }))) i f h

    pub factors_end : s ≡ Ok tt → (carry : List Float) (t : Stage) → carry ≡ carry_rows rr r columns ss → t ≡ stage_of (stored carry) → factors_of mode (core_with rl n rr core) r ss js v ≡ staged t (record { left = left; carry = carry })
    factors_end h carry t eb et =
        opened ∙ staged_on s left (λ u. bind (stored (carry_of rr r ss js v)) (λ b. Ok (record { left = u; carry = b }))) h
        ∙ ap (λ (o : Made (List Float)). bind o (λ b. Ok (record { left = left; carry = b }))) (ap stored (sym (eb ∙ carry_rows_lem)) ∙ stored_staged carry t et)
        ∙ staged_last t carry (λ b. record { left = left; carry = b })

-- ---- all stand at the front of slices of which parts were lent
pub columns_front : (n : ℕ) (js : List ℕ) (r : ℕ) → Columns n (take n js) r → Columns n (take (n - 0) js) r
columns_front n js r h = rw sub-zero h

pub factor_front : (mode : ℕ) (c : Core) (s : Stage) (left q rest carry ss v : List Float) (js : List ℕ) (r rr : ℕ) → factors_of mode c r (take (rr - 0) ss) (take (rr - 0) js) (take (rr * rr - 0) v) ≡ staged s (record { left = left; carry = q })
    → length q ≡ length (take (rr * r - 0) carry) → rr * r ≤ length carry
    → factors_of mode c r (take rr ss) (take rr js) (take (rr * rr) v) ≡ staged s (record { left = left; carry = take (r * rr) (q ++ rest) })
factor_front mode c s left q rest carry ss v js r rr e l b =
    ap (λ (x : ℕ). factors_of mode c r (take x ss) (take x js) (take (rr * rr) v)) (sym (sub-zero rr))
    ∙ ap (λ (x : ℕ). factors_of mode c r (take (rr - 0) ss) (take (rr - 0) js) (take x v)) (sym (sub-zero (rr * rr)))
    ∙ e ∙ ap (λ (x : List Float). staged s (record { left = left; carry = x })) (sym (part_again (r * rr) q rest (l ∙ span_length (rr * r) carry b ∙ mul_comm rr r)))

pub span_some : {A : Type 0} (n : ℕ) (l : List A) → n ≤ length l → (k : ℕ) → k ≤ n → k ≤ length (take (n - 0) l)
span_some n l h k g = let z = span_length n l h in omega arith

-- r columns of n find room where n do
pub columns_room : (n r l : ℕ) → r ≤ n → n * n ≤ l → n * r ≤ l
columns_room n r l h p = omega (arith, mul-le-mul_left n h)

-- the number of rows is at most all
pub rows_most : (m rr l : ℕ) → l ≡ m * rr → 1 ≤ rr → m ≤ l
rows_most m rr l e c = omega (arith, mul-le-mul_left m c)
