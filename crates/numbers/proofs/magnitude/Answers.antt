-- `numbers::magnitude`: clearing the sign bit of a number's pattern gives its magnitude (of_bits_lem), and a NaN is its own (of_nan, SignBit.antt).
use denote.Floats.{passes}
use Rattle.numbers.proofs.SignBit.{of_nan, of_bits_lem, no_nan_pattern}
use Rattle.numbers.proofs.Patterns.{no_nan}
use Rattle.numbers.proofs.magnitude.Goals as goal

pub returns-then-x : goal.returns-then-x
returns-then-x c = of_nan c.args.x c.if-x.true

pub float_to_bits-result : goal.float_to_bits-result
float_to_bits-result c = no_nan c.args.x c.if-x.false

pub float_from_bits-result : goal.float_from_bits-result
float_from_bits-result c = no_nan_pattern c.args.x (passes _ c.well_formed.0.1) c.if-x.false

pub returns : goal.returns
returns c = of_bits_lem c.args.x (passes _ c.well_formed.0.1)
