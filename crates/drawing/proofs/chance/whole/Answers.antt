-- `drawing::chance::whole`: memory safety alone: a number of at most 2 ^ 32 is exact as a float.
use Rattle.std.proofs.Common.{◌^◌, arith, le→leb}
use lib.Ieee.{in_float}
use Rattle.drawing.proofs.chance.whole.Goals as goal

pub int_to_float-result : goal.int_to_float-result
unfolding in_float
int_to_float-result c = le→leb c.below.result (2 ^ 53) (omega arith)
