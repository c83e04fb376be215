-- Loops over numbers in bytes: whether all are finite, each read, each written. Assumes nothing.
use mathlib.Core.Path.{◌≡◌, sym, ap, ◌∙◌, refl}
use Prim.Native.Nat.{ℕ, ◌+◌, ◌*◌, ◌≤◌, ◌<◌}
use native.Mathlib.Omega.{arith}
use mathlib.Core.Bool.{Bool, true, ◌&&◌}
use mathlib.Core.List.{List}
use lib.ListN.{length}
use lib.Ieee.{Float, nan, binary64, to_bits}
use Rattle.numbers.specs.Finite.{finite}
use Rattle.lists.specs.Lists.{joined}
use Rattle.lists.specs.Floats.{at, all_finite}
use Rattle.lists.proofs.Tables.{length_tab, get_or_tab_lem}
use Rattle.lists.proofs.Floats.{finite_get_d_lem}
use Rattle.lists.proofs.Seen.{Flag, flag_more, flag_done}
use Rattle.lists.proofs.Over.{tab_over, tabs_done}
use Rattle.words.specs.Bytes.{f64, f64_at, numbers_from, bytes_of_all}
use Rattle.words.specs.Placed.{placed}
use Rattle.words.proofs.Bytes.{bytes_length}
use Rattle.words.proofs.Placing.{joins_none, joins_more}

-- ---- from bytes
module _ (bytes : List ℕ) (p m : ℕ) where
  abbrev found : ℕ → Float
  found i = f64_at bytes (p + 8 * i)

  pub numbers_length : length (numbers_from bytes p m) ≡ m
  unfolding numbers_from
  numbers_length = length_tab m found

  pub number_at : (i : ℕ) → i < m → at (numbers_from bytes p m) i ≡ f64_at bytes (p + 8 * i)
  unfolding numbers_from
  number_at i h = get_or_tab_lem m found i nan h

  pub flag_number : (i : ℕ) (b x : Bool) → Flag (numbers_from bytes p m) i b → i < m → x ≡ finite (f64_at bytes (p + 8 * i)) → Flag (numbers_from bytes p m) (i + 1) (b && x)
  flag_number i b x e h d = let n = numbers_length in flag_more (numbers_from bytes p m) i b x (b && x) e (omega arith) (d ∙ ap finite (sym (number_at i h))) refl

  pub flag_numbers : (i : ℕ) (b : Bool) → Flag (numbers_from bytes p m) i b → m ≤ i → b ≡ all_finite (numbers_from bytes p m)
  flag_numbers i b e h = let n = numbers_length in flag_done (numbers_from bytes p m) i b e (omega arith)

  pub number_finite : (i : ℕ) → i < m → all_finite (numbers_from bytes p m) ≡ true → finite (f64_at bytes (p + 8 * i)) ≡ true
  number_finite i h e = let n = numbers_length in ap finite (sym (number_at i h)) ∙ finite_get_d_lem (numbers_from bytes p m) i nan (omega arith) e

pub numbers_done : (bytes : List ℕ) (p : ℕ) (d : List Float) (i : ℕ) (u : List Float) → u ≡ tab_over (λ (j : ℕ). f64_at bytes (p + 8 * j)) d i → length d ≤ i → u ≡ numbers_from bytes p (length d)
unfolding numbers_from
numbers_done bytes p d i u e h = tabs_done (λ (j : ℕ). f64_at bytes (p + 8 * j)) d i u e h

-- ---- to bytes
pub f64_length : (x : Float) → length (f64 x) ≡ 8
f64_length x = bytes_length 8 (to_bits binary64 x)

module _ (list : List Float) (p : ℕ) (l : List ℕ) where
  -- the first k are written
  abbrev pub written : ℕ → List ℕ
  written k = placed p (joined k (λ (i : ℕ). f64 (at list i))) l

  pub write_none : l ≡ written 0
  write_none = joins_none 8 (λ (i : ℕ). f64 (at list i)) (λ i. f64_length (at list i)) p l

  pub write_more : (k : ℕ) (u x v : List ℕ) → u ≡ written k → x ≡ f64 (at list k) → p + 8 * k + 8 ≤ length l → v ≡ placed (p + 8 * k) x u → v ≡ written (k + 1)
  write_more k u x v e g h d =
      d ∙ ap (λ (y : List ℕ). placed (p + 8 * k) y u) g
      ∙ joins_more 8 (λ (i : ℕ). f64 (at list i)) (λ i. f64_length (at list i)) p l k (p + 8 * k) u e (omega arith) (omega arith)

  pub write_done : (k : ℕ) (u : List ℕ) → u ≡ written k → k ≤ length list → length list ≤ k → u ≡ placed p (bytes_of_all list) l
  unfolding bytes_of_all
  write_done k u e a b = let n : k ≡ length list = omega arith in e ∙ ap written n
