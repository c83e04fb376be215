-- Laws of sums from the left: a sum of which all terms but one are zeros, what a finite sum says of its terms, and rows summed as one. Assumes nothing.
use mathlib.Core.Path.{◌≡◌, refl, sym, ap, ◌∙◌, subst}
use mathlib.Core.Logic.{⊎_elim}
use Prim.Native.Nat.{ℕ, zero, suc, ◌+◌, ◌*◌, ◌<◌}
use native.Mathlib.Nat.{eq-or-lt_of_le, le_of_suc-le-suc, not-suc-le-zero, le_refl, zero-mul, suc-mul}
use native.Mathlib.Omega.{arith}
use mathlib.Core.Bool.{Bool, true, false, true≢false}
use lib.Dec.{T}
use lib.IntN.{pos}
use lib.Ieee.{Float, nan, inf, fin, binary64, fits, of_bits}
use lib.Ieee.Fits.{add-fits}
use Rattle.numbers.specs.Arithmetic.{plus, times, zero64}
use Rattle.numbers.specs.Finite.{finite}
use Rattle.numbers.specs.Zeros.{Alike}
use Rattle.numbers.proofs.Constants.{zero_is}
use Rattle.numbers.proofs.Zeros.{times_zero, alike_refl, alike_trans, alike_plus, plus_zero_alike}
use Rattle.numbers.proofs.Finite.{plus_lasts, lasts_plus, times_lasts}
use Rattle.lists.specs.Lists.{iter}
use Rattle.lists.specs.Floats.{sum_on, sum_to, sum_rows}
use Rattle.lists.proofs.Loops.{iter_same, iter_add}

-- x is an f64
abbrev pub Fits : Float → Type 0
Fits x = T (fits binary64 x)

-- x is +0 or -0
abbrev pub Zero : Float → Type 0
Zero x = (s : Bool) × (x ≡ fin s 0 (pos 0))

-- ---- what is finite has finite parts
lasts : (a b : Bool) → (a ≡ false → b ≡ false) → b ≡ true → a ≡ true
lasts true b h e = refl
lasts false b h e = absurd (true≢false (sym e ∙ h refl))

pub plus_finite : (x y : Float) → finite (plus x y) ≡ true → (finite x ≡ true) × (finite y ≡ true)
plus_finite x y h = (lasts (finite x) (finite (plus x y)) (plus_lasts x y) h, lasts (finite y) (finite (plus x y)) (lasts_plus x y) h)

pub times_finite : (x y : Float) → finite (times x y) ≡ true → finite x ≡ true
times_finite x y h = lasts (finite x) (finite (times x y)) (times_lasts x y) h

-- ---- a sum whose terms but one are zeros
module _ (t : ℕ → Float) (all : (j : ℕ) → Fits (t j)) where
  pub sum_fits : (s : Float) (k : ℕ) → Fits s → Fits (sum_on s k t)
  unfolding sum_on
  sum_fits s zero h = h
  sum_fits s (suc k) h = add-fits binary64 (sum_on s k t) (t k)

  add_none : (x y : Float) → Fits x → Zero y → Alike (plus x y) x
  add_none x y h z = subst (λ (w : Float). Alike (plus x w) x) (sym z.1) (plus_zero_alike x z.0 h)

  none_yet : (s : Float) (k : ℕ) → Fits s → ((j : ℕ) → j < k → Zero (t j)) → Alike (sum_on s k t) s
  unfolding sum_on
  none_yet s zero h z = alike_refl s
  none_yet s (suc k) h z =
      alike_trans (plus (sum_on s k t) (t k)) (sum_on s k t) s (add_none (sum_on s k t) (t k) (sum_fits s k h) (z k (le_refl (suc k)))) (none_yet s k h (λ j l. z j (omega arith)))

  pub one_term : (s : Float) (i k : ℕ) → i < k → Fits s → ((j : ℕ) → j < k → ¬ (j ≡ i) → Zero (t j)) → Alike (sum_on s k t) (plus s (t i))
  unfolding sum_on
  one_term s i zero l h z = absurd (not-suc-le-zero l)
  one_term s i (suc k) l h z =
      ⊎_elim
      (λ e. subst (λ (m : ℕ). Alike (plus (sum_on s k t) (t k)) (plus s (t m))) (sym e)
      (alike_plus (sum_on s k t) s (t k) (t k) (sum_fits s k h) h (all k) (all k) (none_yet s k h (λ j q. z j (omega arith) (λ d. omega arith))) (alike_refl (t k))))
      (λ q. alike_trans (plus (sum_on s k t) (t k)) (sum_on s k t) (plus s (t i))
      (add_none (sum_on s k t) (t k) (sum_fits s k h) (z k (le_refl (suc k)) (λ d. omega arith)))
      (one_term s i k q h (λ j p d. z j (omega arith) d)))
      (eq-or-lt_of_le (le_of_suc-le-suc l))

  -- a finite sum has finite terms
  pub sum_finite : (s : Float) (k : ℕ) → finite (sum_on s k t) ≡ true → (finite s ≡ true) × ((j : ℕ) → j < k → finite (t j) ≡ true)
  unfolding sum_on
  sum_finite s zero h = (h, λ j l. absurd (not-suc-le-zero l))
  sum_finite s (suc k) h =
      let p = plus_finite (sum_on s k t) (t k) h in
      let r = sum_finite s k p.0 in
      (r.0, λ j l. ⊎_elim (λ e. subst (λ (m : ℕ). finite (t m) ≡ true) (sym e) p.1) (λ q. r.1 j q) (eq-or-lt_of_le (le_of_suc-le-suc l)))

pub zero_fits : Fits zero64
unfolding of_bits fits
zero_fits = tt

-- a finite product with zero is a zero
pub times_none : (p : Float) → finite (times p zero64) ≡ true → Zero (times p zero64)
times_none nan h = absurd (true≢false (sym (times_finite nan zero64 h)))
times_none (inf s) h = absurd (true≢false (sym (times_finite (inf s) zero64 h)))
times_none (fin s m e) h = (_, ap (times (fin s m e)) zero_is ∙ times_zero s m e false)

-- ---- sums of the same terms; rows of terms are summed as one row
pub sum_same : (k : ℕ) (t u : ℕ → Float) → ((i : ℕ) → i < k → t i ≡ u i) → sum_to k t ≡ sum_to k u
unfolding sum_to sum_on
sum_same k t u h = iter_same k (λ (i : ℕ) (s : Float). plus s (t i)) (λ (i : ℕ) (s : Float). plus s (u i)) zero64 (λ i s l. ap (plus s) (h i l))

pub sum_rows_lem : (m n : ℕ) (t : ℕ → ℕ → Float) (u : ℕ → Float) → ((i j : ℕ) → i < m → j < n → t i j ≡ u (i * n + j)) → sum_rows m n t ≡ sum_to (m * n) u
unfolding sum_rows sum_to sum_on
sum_rows_lem zero n t u h = rw (zero-mul n)
sum_rows_lem (suc m) n t u h =
    let f : ℕ → Float → Float = λ k s. plus s (u k) in
    ap (λ (s : Float). iter n (λ (j : ℕ) (x : Float). plus x (t m j)) s) (sum_rows_lem m n t u (λ i j p q. h i j (omega arith) q))
    ∙ iter_same n (λ (j : ℕ) (x : Float). plus x (t m j)) (λ (j : ℕ). f (m * n + j)) (iter (m * n) f zero64) (λ j x q. ap (plus x) (h m j (le_refl (suc m)) q))
    ∙ sym (ap (λ (k : ℕ). iter k f zero64) (suc-mul m n) ∙ iter_add (m * n) n f zero64)
