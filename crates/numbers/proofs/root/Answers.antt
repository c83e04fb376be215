-- `numbers::root`: cases of the argument's bits, each a law of RootCases.antt: a NaN, a zero, a positive number by `root_bits`, infinity, minus zero, a negative number.
use mathlib.Core.Path.{refl}
use native.Mathlib.Omega.{arith}
use denote.Floats.{passes}
use Rattle.numbers.proofs.RootCases.{nan_root, zero_root, inf_root, negative_zero_root, bits_root, none_root}
use Rattle.numbers.proofs.Patterns.{no_nan, no_nan_bits}
use Rattle.numbers.proofs.root.Goals as goal

pub returns-then-x : goal.returns-then-x
returns-then-x c = nan_root c.args.x c.if-x.true

pub float_to_bits-bits : goal.float_to_bits-bits
float_to_bits-bits c = no_nan c.args.x c.if-x.false

pub returns-then-bits-eq0 : goal.returns-then-bits-eq0
returns-then-bits-eq0 c = zero_root c.args.x (passes _ c.well_formed.0.1) c.if-bits-eq0.true

pub float_from_bits-result : goal.float_from_bits-result
float_from_bits-result c = no_nan_bits c.root_bits.result c.root_bits.ensures.0

pub returns-then-bits-lt9218868437227405312 : goal.returns-then-bits-lt9218868437227405312
returns-then-bits-lt9218868437227405312 c = bits_root c.args.x _ _ (passes _ c.well_formed.0.1) refl (omega arith) c.if-bits-lt9218868437227405312.true c.root_bits.ensures.1

pub returns-then-bits-eq9218868437227405312 : goal.returns-then-bits-eq9218868437227405312
returns-then-bits-eq9218868437227405312 c = inf_root c.args.x (passes _ c.well_formed.0.1) c.if-bits-eq9218868437227405312.true

pub returns-then-bits : goal.returns-then-bits
returns-then-bits c = negative_zero_root c.args.x (passes _ c.well_formed.0.1) c.if-bits.true

pub returns : goal.returns
returns c = none_root c.args.x (passes _ c.well_formed.0.1) c.if-bits.false c.if-bits-eq9218868437227405312.false c.if-bits-lt9218868437227405312.false
