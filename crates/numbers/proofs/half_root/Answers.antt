-- `numbers::half_root`: a guess that passed the test of `near` is the half root (halved); otherwise it is half the whole root of `wide_root`.
use mathlib.Core.Path.{refl}
use Rattle.numbers.proofs.TwoDigits.{halved}
use Rattle.numbers.proofs.half_root.Goals as goal

pub returns-then-near : goal.returns-then-near
returns-then-near c = halved _ _ c.requires.2 c.requires.3 (c.near.ensures c.if-near.true).0 (c.near.ensures c.if-near.true).1

pub returns : goal.returns
returns c = record { q = c.wide_root.result; under = c.wide_root.ensures.0; over = c.wide_root.ensures.1; small = c.wide_root.ensures.2; half = refl }
