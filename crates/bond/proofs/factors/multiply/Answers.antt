-- `bond::factors::multiply`: the core is copied and the product written over its front (multiply_is).
use native.Mathlib.Nat.{mul-le-mul_left}
use native.Mathlib.Omega.{arith}
use Rattle.bond.proofs.Finished.{multiply_is}
use Rattle.bond.proofs.factors.multiply.Goals as goal

pub product-requires : goal.product-requires
product-requires c = omega (
  arith,
  mul-le-mul_left c.args.m
      c.requires.2,
)

pub returns : goal.returns
returns c = multiply_is _ _ _ _ _ _ _ _ c.copy.ensures c.product.ensures
