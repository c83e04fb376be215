-- `rounding::packing::pack`: the invariant (Packing): k cores stand packed at the chain's front, and the next is read where its source begins.
use Rattle.shape.specs.Shapes.{core_size}
use Rattle.lists.proofs.Packs.{Packing}
use Rattle.rounding.proofs.packing.pack.Given as goal

abbrev pub invariant-loop-k : goal.invariant-loop-k
invariant-loop-k l = Packing (core_size l.s) (core_size l.t) l.s.d l.work l.initial.chain l.k l.from l.at l.chain
