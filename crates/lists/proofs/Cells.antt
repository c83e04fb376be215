-- Row-major indices: bounds, and what fits a machine word. Assumes nothing.
use Prim.Native.Nat.{ℕ, ◌+◌, ◌*◌, ◌<◌, ◌≤◌, ◌^◌}
use native.Mathlib.Nat.{mul-le-mul_right, suc-mul, le_of_eq}
use native.Mathlib.Omega.{arith}
use mathlib.Core.Path.{◌≡◌, sym, ap}
use mir.Syntax.{w64}
use mir.Val.{Fits}
use borrow.Author.Rules.{scaled_Fits}
use Rattle.lists.proofs.Tests.{below_or_not}

-- entry i of row k lies within m rows of n
pub cell_lt : (k m n i l : ℕ) → k < m → i < n → m * n ≤ l → k * n + i < l
cell_lt k m n i l p q r = omega (arith, mul-le-mul_right n p, suc-mul k n)

pub row_fits : (k m n l : ℕ) → k < m → m * n ≤ l → l < 2 ^ 64 → Fits w64 (k * n)
row_fits k m n l p r s = record { fits = omega (arith, mul-le-mul_right n p, suc-mul k n) }

pub cell_fits : (k m n i l : ℕ) → k < m → i < n → m * n ≤ l → l < 2 ^ 64 → Fits w64 (k * n + i)
cell_fits k m n i l p q r s = record { fits = omega (arith, mul-le-mul_right n p, suc-mul k n) }

-- an offset in bytes: entry i of the first n, and entry i of row k
pub elt_fits : (i n l : ℕ) → i < n → n ≤ l → l * 8 < 2 ^ 63 → Fits w64 (i * 8)
elt_fits i n l p q s = scaled_Fits i l 8 (omega arith) s

pub cell_scaled : (k m n i l : ℕ) → k < m → i < n → m * n ≤ l → l * 8 < 2 ^ 63 → Fits w64 ((k * n + i) * 8)
cell_scaled k m n i l p q r s = scaled_Fits (k * n + i) l 8 (cell_lt k m n i l p q r) s

-- where the list has the length that it had
pub row_end_now : (k m n l l' : ℕ) → k < m → m * n ≤ l' → l ≡ l' → k * n + n ≤ l
row_end_now k m n l l' p r e = omega (arith, mul-le-mul_right n p, suc-mul k n)

-- the end of row k, as a bound and as a number that fits; and the row's start in bytes
pub row_end : (k m n l : ℕ) → k < m → m * n ≤ l → k * n + n ≤ l
row_end k m n l p r = omega (arith, mul-le-mul_right n p, suc-mul k n)

pub row_end_fits : (k m n l : ℕ) → k < m → m * n ≤ l → l < 2 ^ 64 → Fits w64 (k * n + n)
row_end_fits k m n l p r s = record { fits = omega (arith, mul-le-mul_right n p, suc-mul k n) }

pub row_scaled : (k m n l : ℕ) → k < m → m * n ≤ l → l * 8 < 2 ^ 63 → Fits w64 (k * n * 8)
row_scaled k m n l p r s = record { fits = omega (arith, mul-le-mul_right n p, suc-mul k n) }

-- a cell's row and column are told by its place
pub cell_row : (i j n x y : ℕ) → x < n → y < n → i * n + x ≡ j * n + y → i ≡ j
cell_row i j n x y p q e =
    below_or_not i j
    (λ l. absurd (above i j x y l p e))
    (λ g. below_or_not j i (λ l. absurd (above j i y x l q (sym e))) (λ h. omega arith))
  where
    above : (i j x y : ℕ) → i < j → x < n → i * n + x ≡ j * n + y → ⊥
    above i j x y l p e = omega (arith, mul-le-mul_right n l, suc-mul i n)

pub cell_column : (i j n x y : ℕ) → x < n → y < n → i * n + x ≡ j * n + y → x ≡ y
cell_column i j n x y p q e = let r = ap (λ (k : ℕ). k * n) (cell_row i j n x y p q e) in omega arith

-- ---- the same in a list of exactly m rows of n
module _ (k m n i l : ℕ) (e : l ≡ m * n) (p : k < m) (q : i < n) where
  pub exact_lt : k * n + i < l
  exact_lt = cell_lt k m n i l p q (le_of_eq (sym e))

  pub exact_fits : l < 2 ^ 64 → Fits w64 (k * n + i)
  exact_fits s = record { fits = omega (arith, exact_lt) }

  pub exact_scaled : l * 8 < 2 ^ 63 → Fits w64 ((k * n + i) * 8)
  exact_scaled s = record { fits = omega (arith, exact_lt) }

pub exact_row : (k m n l : ℕ) → l ≡ m * n → k < m → l < 2 ^ 64 → Fits w64 (k * n)
exact_row k m n l e p s = row_fits k m n l p (le_of_eq (sym e)) s

pub exact_end : (k m n l : ℕ) → l ≡ m * n → k < m → k * n + n ≤ l
exact_end k m n l e p = row_end k m n l p (le_of_eq (sym e))

pub ruleset exacts = (exact_lt, exact_fits, exact_scaled, exact_row, exact_end)

-- ---- number k of c that start at p, q apart
module _ (k c q p l : ℕ) (h : k < c) (r : p + c * q < l + q) where
  pub stride_lt : k * q + p < l
  stride_lt = omega (arith, mul-le-mul_right q h, suc-mul k q)

  pub stride_row : l < 2 ^ 64 → Fits w64 (k * q)
  stride_row s = record { fits = omega (arith, stride_lt) }

  pub stride_fits : l < 2 ^ 64 → Fits w64 (k * q + p)
  stride_fits s = record { fits = omega (arith, stride_lt) }

  pub stride_scaled : l * 8 < 2 ^ 63 → Fits w64 ((k * q + p) * 8)
  stride_scaled s = record { fits = omega (arith, stride_lt) }

-- columns j to j + h of row k of c
module _ (k c w j h l : ℕ) (r : k < c) (g : j + h ≤ w) (s : c * w ≤ l) where
  pub columns_end : k * w + j + h ≤ l
  columns_end = omega (arith, mul-le-mul_right w r, suc-mul k w)

  pub columns_fits : l < 2 ^ 64 → Fits w64 (k * w + j)
  columns_fits t = record { fits = omega (arith, columns_end) }

pub ruleset strides = (stride_lt, stride_row, stride_fits, stride_scaled, columns_end, columns_fits)
