-- `cuts::zone::taken` by the stage that takes the carry in, told as the call's verdict. Assumes nothing.
use borrow.Author.Rules.{rules}
use Rattle.cuts.proofs.Zoned.{taken_none, taken_made}
use Prim.Native.Nat.{◌≤◌}
use Rattle.cuts.proofs.zone.taken.Goals as goal

ruleset ways = (rules, taken_none)

pub take_in-made-requires : goal.take_in-made-requires
take_in-made-requires c = let l : 1 ≤ c.args.k = search rules in (c.requires.0, c.requires.1, c.requires.2, c.requires.3, c.requires.4, c.requires.5, c.requires.7 l)

pub returns : goal.returns
returns c = let l : 1 ≤ c.args.k = search rules in
    taken_made _ _ _ _ _ _ _ l _ _ c.take_in-made.ensures _ c.stored_in.ensures

pub returns-then-k-lt1 : goal.returns-then-k-lt1
returns-then-k-lt1 c = search ways
