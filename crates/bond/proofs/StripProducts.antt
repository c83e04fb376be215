-- A strip of a product, number by number, and its rows one after another. Assumes nothing.
use Prim.Native.Nat.{ℕ, zero, suc, ◌+◌, ◌*◌, ◌<◌, ◌≤◌}
use native.Mathlib.Nat.{mul-le-mul_right, suc-mul, add_assoc, le_antisymm}
use native.Mathlib.Omega.{arith}
use mathlib.Core.Path.{◌≡◌, refl, ap, ◌∙◌}
use mathlib.Core.List.{List, ◌++◌}
use lib.ListN.{length, drop, replicate, get_or-replicate}
use lib.Ieee.{Float, nan}
use Rattle.numbers.specs.Arithmetic.{times, zero64}
use Rattle.lists.specs.Lists.{iter}
use Rattle.lists.specs.Floats.{at, sum_on, sum_to}
use Rattle.lists.specs.Strips.{strip_width, added_in, stored_from}
use Rattle.lists.proofs.Tables.{iter_keeps}
use Rattle.lists.proofs.Strips.{row_to, added_length, added_at, stored_same, rows_front}
use Rattle.bond.specs.Products.{dot_at, product_of}

-- ---- a strip
-- the sums of h columns after the first k rows
abbrev pub sums_to : ℕ → List Float → ℕ → ℕ → List Float → ℕ → ℕ → ℕ → List Float → List Float
sums_to h b p q a w j k s = iter k (λ (i : ℕ). added_in h (λ (t : ℕ). times (at b (i * q + p)) (at a (i * w + j + t)))) s

module _ (h : ℕ) (b : List Float) (p q : ℕ) (a : List Float) (w j : ℕ) (s : List Float) (g : h ≤ length s) where
  sums_length : (c : ℕ) → length (sums_to h b p q a w j c s) ≡ length s
  sums_length c =
      iter_keeps (λ (l : List Float). length l ≡ length s) (λ (k : ℕ). added_in h (λ (t : ℕ). times (at b (k * q + p)) (at a (k * w + j + t)))) s refl
      (λ k l e. added_length (λ (t : ℕ). times (at b (k * q + p)) (at a (k * w + j + t))) l h ∙ e) c

  sums_at : (c t : ℕ) → t < h → at s t ≡ zero64 → at (sums_to h b p q a w j c s) t ≡ dot_at b p q a w c (j + t)
  unfolding dot_at sum_to sum_on
  sums_at zero t l z = z
  sums_at (suc c) t l z =
      added_at (λ (t : ℕ). times (at b (c * q + p)) (at a (c * w + j + t))) (sums_to h b p q a w j c s) h t l (omega (arith, sums_length c))
      ∙ rw (sums_at c t l z, add_assoc (c * w) j t)

-- from sums that start as zeros, stored
pub strip_end : (h : ℕ) (b : List Float) (p q : ℕ) (a : List Float) (w c j k e : ℕ) (s o u : List Float)
    → s ≡ sums_to h b p q a w j k (replicate strip_width zero64) → u ≡ stored_from e h (at s) o → k ≤ c → c ≤ k → h ≤ strip_width
    → u ≡ stored_from e h (λ (t : ℕ). dot_at b p q a w c (j + t)) o
strip_end h b p q a w c j k e s o u d f m n g =
    f ∙ stored_same e h (at s) (λ (t : ℕ). dot_at b p q a w c (j + t)) o
    (λ t l. rw (d, le_antisymm n m) (sums_at h b p q a w j (replicate strip_width zero64) g k t l (get_or-replicate strip_width t zero64 nan (omega arith))))

-- ---- row after row
pub start_ok_lem : (i r d m l q : ℕ) → i < r → r * d + m < l + q + d → i * d + m < l + q
start_ok_lem i r d m l q h g = omega (arith, mul-le-mul_right d h, suc-mul i d)

pub rows_done : (b : List Float) (d q : ℕ) (a : List Float) (w c r k : ℕ) (o u : List Float)
    → u ≡ iter k (λ (i : ℕ). stored_from (i * w) w (dot_at b (i * d) q a w c)) o → k ≤ r → r ≤ k → r * w ≤ length o
    → u ≡ product_of b d q a w c r ++ drop (r * w) o
unfolding product_of
rows_done b d q a w c r k o u e g h l = rows_front r w (λ (i j : ℕ). dot_at b (i * d) q a w c j) k o u e g h l

-- the first j entries, by another name for their number
pub row_met : (e : ℕ) (f : ℕ → Float) (j k : ℕ) (o u : List Float) → u ≡ row_to e f 0 j o → j ≡ k → u ≡ row_to e f 0 k o
row_met e f j k o u d h = d ∙ ap (λ (i : ℕ). row_to e f 0 i o) h
