-- `numbers::guess`: neither pattern is that of a NaN (no_nan_bits), and the bits that are kept and set leave a number of 53 digits.
use native.Mathlib.Omega.{arith}
use Rattle.numbers.proofs.Patterns.{no_nan, no_nan_bits}
use Rattle.numbers.proofs.guess.Goals as goal

pub float_from_bits-x : goal.float_from_bits-x
float_from_bits-x c = no_nan_bits _ (omega arith)

pub float_from_bits-a : goal.float_from_bits-a
float_from_bits-a c = no_nan_bits _ (omega arith)

pub float_to_bits-result : goal.float_to_bits-result
float_to_bits-result c = no_nan _ c.if-g.false
