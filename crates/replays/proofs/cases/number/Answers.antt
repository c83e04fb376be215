-- `replays::cases::number`: a word that is a NaN's pattern is not made a float (no_nan_word).
use borrow.Author.Rules.{rules}
use Rattle.replays.proofs.Patterns.{no_nan_word}
use Rattle.replays.proofs.cases.number.Goals as goal

pub float_from_bits-result : goal.float_from_bits-result
float_from_bits-result c = search (rules, no_nan_word)
