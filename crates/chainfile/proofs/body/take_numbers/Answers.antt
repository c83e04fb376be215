-- `chainfile::body::take_numbers`: the numbers of the bodies fill the front, and zeros the rest (numbers_ask, numbers_taken).
use Rattle.chainfile.proofs.Bodies.{numbers_ask, numbers_taken}
use Rattle.chainfile.proofs.body.take_numbers.Goals as goal

pub numbers-requires : goal.numbers-requires
numbers-requires c = numbers_ask _ _ _ c.requires.bytes_len.1 _ c.entries-n.ensures _ c.fill.ensures
    c.requires.bytes_len.0 c.requires.bytes_len.2

pub returns : goal.returns
returns c = numbers_taken _ _ _ c.requires.bytes_len.1 _
    c.entries-n.ensures _
    c.fill.ensures _ c.numbers.ensures
