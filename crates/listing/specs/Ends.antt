-- A text that grows. Definitions for code only.
use Rattle.std.specs.Prelude.{◌≡◌, ℕ, ◌+◌, ◌≤◌, List, length}
use Rattle.words.specs.Placed.{placed}

-- x, at most `most` bytes, was put into l from `at` on, which gave m; it ends before `end`
pub record Put (most at : ℕ) (x l m : List ℕ) (end : ℕ) : Type 0 where
  pub ends : end ≡ at + length x
  pub few : end ≤ at + most
  pub room : end ≤ length m
  pub there : m ≡ placed at x l
