-- `bond::absorb`: the absorbed core is a product of the carry's rows with the core's lines (absorb_is).
use native.Mathlib.Omega.{arith}
use Rattle.bond.proofs.Cores.{line_most, absorb_is}
use Rattle.bond.proofs.absorb.Goals as goal

pub overflow_mul-n : goal.overflow_mul-n
overflow_mul-n c = record { fits = omega (arith, line_most _ _ _ _ c.requires.0 c.requires.1) }

pub returns : goal.returns
returns c = absorb_is _ _ _ _ _ _ _ _ c.product.ensures
