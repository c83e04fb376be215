-- `numbers::root_bits`: the half root of the digits, found from a guess, has the bits of the rounded root (found_half, RootPattern.antt).
use native.Mathlib.Omega.{arith}
use lib.Bits.{mask_lt}
use Rattle.numbers.proofs.RootPattern.{asked, found_half}
use Rattle.numbers.proofs.root_bits.Goals as goal

pub overflow_shl-p : goal.overflow_shl-p
overflow_shl-p c = omega (arith, mask_lt c.parts-p.result.e 1)

pub half_root-r-requires : goal.half_root-r-requires
half_root-r-requires c = ((asked _ _ _ c.parts-p.ensures).0, (asked _ _ _ c.parts-p.ensures).1, c.guess.ensures.0, c.guess.ensures.1)

pub returns : goal.returns
returns c = found_half _ _ _ c.parts-p.ensures _ c.half_root-r.ensures
