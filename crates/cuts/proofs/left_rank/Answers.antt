-- `cuts::left_rank`: core 0 has its shape's left rank (rank_first), any other the rank of the bond before (rank_next).
use borrow.Author.Rules.{rules}
use Rattle.cuts.proofs.Stands.{rank_first, rank_next}
use Prim.Native.Nat.{◌≤◌}
use Rattle.cuts.proofs.left_rank.Goals as goal

ruleset ways = (rules, rank_first)

pub returns : goal.returns
returns c = let l : 1 ≤ c.args.k = search rules in rank_next _ _ _ l

pub returns-then-k-lt1 : goal.returns-then-k-lt1
returns-then-k-lt1 c = search ways
