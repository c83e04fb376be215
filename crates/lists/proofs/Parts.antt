-- Front parts of a list that a call was lent: their lengths, and what comes back. Assumes nothing.
use mathlib.Core.Path.{◌≡◌, sym, ◌∙◌, subst}
use mathlib.Core.List.{List, ◌++◌}
use Prim.Native.Nat.{ℕ, ◌-◌, ◌*◌, ◌≤◌}
use native.Mathlib.Nat.{sub-zero}
use lib.ListN.{length, take}
use lib.Seq.{length-take-le, take_at}

module _ {A : Type 0} (n : ℕ) (l : List A) (h : n ≤ length l) where
  pub part_count : n ≡ length (take n l)
  part_count = sym (length-take-le n l h)

  pub part_rows : (m k : ℕ) → n * m ≤ k → length (take n l) * m ≤ k
  part_rows m k g = subst (λ (x : ℕ). x * m ≤ k) part_count g

  pub part_some : (k : ℕ) → k ≤ n → k ≤ length (take n l)
  part_some k g = subst (λ (x : ℕ). k ≤ x) part_count g

  -- two front parts of one length
  pub parts_even : {B : Type 0} (m : List B) → n ≤ length m → length (take n l) ≡ length (take n m)
  parts_even m g = length-take-le n l h ∙ sym (length-take-le n m g)

pub ruleset parts = (part_count, part_rows, part_some, parts_even)

-- a front part that was lent and came back as x
pub part_again : {A : Type 0} (n : ℕ) (x r : List A) → length x ≡ n → take n (x ++ r) ≡ x
part_again n x r e = take_at x r n e

-- the same of a part that is written 0..n
pub span_length : {A : Type 0} (n : ℕ) (l : List A) → n ≤ length l → length (take (n - 0) l) ≡ n
span_length n l h = rw sub-zero (length-take-le n l h)

pub span_again : {A : Type 0} (n : ℕ) (x r : List A) → length x ≡ n → take (n - 0) (x ++ r) ≡ x
span_again n x r e = rw sub-zero (take_at x r n e)
