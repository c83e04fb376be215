-- `listing::put_digits`: a number below 2 ^ 64 has at most twenty digits, and those that `decimal` gives are its digits (few_digits, digits_of_lem).
use native.Mathlib.Omega.{arith}
use mathlib.Core.Path.{◌∙◌}
use Rattle.listing.proofs.Digits.{digits_of_lem, few_digits}
use Rattle.listing.proofs.Grows.{put_wide, put_same}
use Rattle.listing.proofs.put_digits.Goals as goal

pub put_word-requires : goal.put_word-requires
put_word-requires c = omega (arith, few_digits _ _ c.ranges.n.fits c.decimal-k.ensures.len, c.decimal-k.ensures.in_bounds.1, c.requires)

pub returns : goal.returns
returns c = let k = few_digits _ _ c.ranges.n.fits c.decimal-k.ensures.len in
    put_same (c.decimal-k.ensures.digits ∙ digits_of_lem _ _ k c.decimal-k.ensures.len) (put_wide (omega (arith, c.decimal-k.ensures.in_bounds.1)) c.put_word.ensures)
