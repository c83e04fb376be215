-- `bond::gram`: the Gram matrix is a product of the core's rows with themselves (gram_is).
use native.Mathlib.Omega.{arith}
use Rattle.bond.proofs.Cores.{row_most, gram_is}
use Rattle.bond.proofs.Finished.{rows_most}
use Rattle.bond.proofs.gram.Goals as goal

pub overflow_mul-rl : goal.overflow_mul-rl
overflow_mul-rl c = record { fits = omega (arith, rows_most _ _ _ c.requires.0 c.requires.3) }

pub product-requires : goal.product-requires
product-requires c = omega (arith, row_most _ _ _ _ c.requires.0 c.requires.1 c.requires.2)

pub returns : goal.returns
returns c = gram_is _ _ _ _ _ _ c.product.ensures c.requires.4
