-- `numbers::floor`: cases of the argument: no number and one of 2 ^ 52 or more stay (nan_kept, large_kept), any other is floored by its bits (floored, FloorBits.antt).
use lib.Ieee.{binary64, to_bits}
use lib.Ieee.Bits.{to_bits-lt}
use denote.Floats.{passes}
use Rattle.numbers.proofs.FloorBits.{nan_kept, large_kept, floored, signed_no_nan}
use Rattle.numbers.proofs.Patterns.{no_nan}
use Rattle.numbers.proofs.floor.Goals as goal

pub returns-then-x : goal.returns-then-x
returns-then-x c = nan_kept c.args.x c.if-x.true

pub float_to_bits-bits : goal.float_to_bits-bits
float_to_bits-bits c = no_nan c.args.x c.if-x.false

pub returns-then-size-ge4841369599423283200 : goal.returns-then-size-ge4841369599423283200
returns-then-size-ge4841369599423283200 c = large_kept c.args.x (passes _ c.well_formed.0.1) c.if-x.false c.if-size-ge4841369599423283200.true

pub float_from_bits-result : goal.float_from_bits-result
float_from_bits-result c = let x = c.args.x in
    signed_no_nan (to_bits binary64 x) _ (to_bits-lt binary64 x (passes _ c.well_formed.0.1)) c.whole_bits.ensures.small

pub returns : goal.returns
returns c = floored c.args.x _ (passes _ c.well_formed.0.1) c.if-size-ge4841369599423283200.false c.whole_bits.ensures
