use native.Mathlib.Omega.{arith}
use Rattle.lists.proofs.Strips.{row_on}
use Rattle.product.proofs.Strips.{contract_end}
use Rattle.product.proofs.contraction.contract_step.Goals as goal

pub returns : goal.returns
returns c = contract_end _ _ _ _ _ _ _
    (row_on _ _ _ _ _ _ _ _
    (row_on _ _ _ _ _ _ _ _ c.loop-j.invariant.3 c.loop-j.invariant.0
    c.loop-j-2.invariant.3 c.loop-j-2.invariant.0) (omega arith) c.loop-k.invariant.3
    c.loop-k.invariant.0) c.loop-k.invariant.1 c.loop-k-test.false (omega arith)
