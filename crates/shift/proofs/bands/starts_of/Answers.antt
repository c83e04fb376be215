-- `shift::bands::starts_of`: a whole number can be stepped by from any offset (size_fits).
use borrow.Author.Rules.{rules}
use Rattle.numbers.proofs.Reach.{in_reach_whole}
use Rattle.shift.proofs.Starts.{starts_are, size_fits}
use Rattle.shift.proofs.bands.starts_of.Goals as goal

pub stepped-requires : goal.stepped-requires
stepped-requires c = search (rules, size_fits)

pub stepped-requires-2 : goal.stepped-requires-2
stepped-requires-2 c = search (rules, size_fits)

pub stepped-requires-3 : goal.stepped-requires-3
stepped-requires-3 c = search (rules, size_fits)

pub stepped-requires-4 : goal.stepped-requires-4
stepped-requires-4 c = search (rules, size_fits)

pub returns : goal.returns
returns c = search (rules, in_reach_whole, starts_are)
