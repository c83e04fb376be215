-- What the two new cores claim, which proofs/ proves of `pair_of`. Definitions only.
use Rattle.std.specs.Prelude.{ℕ, ◌*◌, ◌≤◌, ◌≡◌, true, length}
use Rattle.lists.specs.Floats.{all_finite}
use Rattle.shape.specs.Limits.{most_rank}
use Rattle.pairform.specs.Splits.{Halves}

-- the cores keep the outer sizes and share a rank, from 1 to the number of columns and to the limit; their numbers are as many as their sizes say, and finite
pub record Formed (rl nj nk rr : ℕ) (h : Halves) : Type 0 where
  pub left_rank : h.left.rl ≡ rl
  pub left_points : h.left.n ≡ nj
  pub right_points : h.right.n ≡ nk
  pub right_rank : h.right.rr ≡ rr
  pub shared : h.right.rl ≡ h.left.rr
  pub least : 1 ≤ h.left.rr
  pub within_columns : h.left.rr ≤ nk * rr
  pub within_limit : h.left.rr ≤ most_rank
  pub left_length : length h.left.entries ≡ rl * nj * h.left.rr
  pub right_length : length h.right.entries ≡ h.left.rr * nk * rr
  pub left_finite : all_finite h.left.entries ≡ true
  pub right_finite : all_finite h.right.entries ≡ true
