-- The shift as it is worked out: over a block that is written on as its axis' boundary asks, so that no index wraps. The inner functions cite this;
-- proofs/Around.antt says that it is the shift. Definitions only.
use Rattle.std.specs.Prelude.{◌≡◌, ℕ, suc, ◌+◌, ◌-◌, ◌*◌, ◌≤◌, List, eqb, pos, length, take, drop, Float}
use Rattle.lists.specs.Lists.{pick, grid}
use Rattle.lists.specs.Floats.{at}
use Rattle.shape.specs.Limits.{most_points}
use Rattle.stepform.specs.Boundaries.{reflecting, wrapped}
use Rattle.shift.specs.Starts.{entry_in}

-- what a call that shifts a core is lent: the core's numbers, as many numbers to write, and room for one of its blocks three times
pub record Lent (core : List Float) (rl n rr : ℕ) (out block : List Float) : Type 0 where
  pub some : 1 ≤ n
  pub few : n ≤ most_points
  pub whole : length core ≡ rl * n * rr
  pub long : length out ≡ rl * n * rr
  pub room : 3 * (n * rr) ≤ length block

-- after how many points an index comes again: n, or 2n where the axis reflects
unfoldable pub period : ℕ → ℕ → ℕ
period boundary n = pick (eqb boundary reflecting) (2 * n) n

-- the n rows of s from the last to the first
unfoldable pub backwards_of : List Float → ℕ → ℕ → List Float
backwards_of s n rr = grid n rr (λ (q x : ℕ). at s ((n - suc q) * rr + x))

-- the n rows of s, written on: row q is that of the wrapped index q, for n rows from each of a period's points on
unfoldable pub unrolled_of : ℕ → List Float → ℕ → ℕ → List Float
unrolled_of boundary s n rr = grid (period boundary n + n) rr (λ (q x : ℕ). at s (wrapped boundary n (pos q) * rr + x))

-- block k of h numbers
abbrev pub block_of : List Float → ℕ → ℕ → List Float
block_of l h k = take h (drop (k * h) l)

-- rl blocks of n rows of rr, each shifted
unfoldable pub blocks_of : ℕ → List Float → ℕ → ℕ → ℕ → List Float → List ℕ → List Float → List ℕ → List Float
blocks_of boundary l rl n rr forward ahead backward behind =
    grid rl (n * rr) (λ (k : ℕ). entry_in (unrolled_of boundary (block_of l (n * rr) k) n rr) forward ahead backward behind)
