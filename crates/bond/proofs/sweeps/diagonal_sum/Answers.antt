use Prim.Native.Nat.{ℕ}
use mathlib.Core.Path.{ap}
use lib.Ieee.{Float}
use Rattle.numbers.specs.Arithmetic.{plus, times}
use Rattle.lists.specs.Floats.{cell, sum_on, sum_to}
use Rattle.lists.proofs.Turns.{iter_more, iter_done}
use Rattle.cutform.specs.Modes.{diagonal_sum}
use Rattle.bond.proofs.sweeps.diagonal_sum.Goals as goal

pub loop-i-preserved : goal.loop-i-preserved
loop-i-preserved c = let more : ℕ → Float → Float = λ j x. plus x (times (cell c.args.n c.args.g.now j j) (cell c.args.n c.args.g.now j j)) in
    iter_more more _ c.loop-i.i _ _ c.loop-i.invariant (ap (λ (x : Float). plus c.loop-i.sum (times x x)) c.number_at-x.ensures)

pub returns : goal.returns
unfolding diagonal_sum sum_to sum_on
returns c = iter_done _ _ _ _ _ c.loop-i.invariant c.loop-i.auto.i-end c.loop-i-test.false
