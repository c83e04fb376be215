-- `numbers::parts`: a normal number has its digits as they stand (normal), a subnormal one has them shifted up by its leading zeros (subnormal, Splitting.antt).
use native.Mathlib.Omega.{arith}
use Rattle.numbers.proofs.Splitting.{normal, enough, few, subnormal}
use Rattle.numbers.proofs.parts.Goals as goal

pub overflow_sub-z : goal.overflow_sub-z
overflow_sub-z c = enough c.args.bits c.requires.0 c.if-field-gt0.false

pub overflow_cast-result : goal.overflow_cast-result
overflow_cast-result c = omega (arith, few c.args.bits c.requires.0 c.if-field-gt0.false)

pub overflow_shl-result : goal.overflow_shl-result
overflow_shl-result c = omega (arith, few c.args.bits c.requires.0 c.if-field-gt0.false)

pub overflow_cast-result-else-field-gt0 : goal.overflow_cast-result-else-field-gt0
overflow_cast-result-else-field-gt0 c = omega (arith, few c.args.bits c.requires.0 c.if-field-gt0.false)

pub overflow_sub-result : goal.overflow_sub-result
overflow_sub-result c = few c.args.bits c.requires.0 c.if-field-gt0.false

pub returns-then-field-gt0 : goal.returns-then-field-gt0
returns-then-field-gt0 c = normal c.args.bits c.requires.1 c.if-field-gt0.true

pub returns-else-field-gt0 : goal.returns-else-field-gt0
returns-else-field-gt0 c = subnormal c.args.bits c.requires.0 c.if-field-gt0.false
