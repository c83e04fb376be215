-- `shift::shift_blocks`: the invariant: the first k blocks are shifted (joins_more), each from its copy that is written on (block_shifted).
use Prim.Native.Nat.{ℕ, ◌*◌}
use mathlib.Core.Path.{◌≡◌}
use lib.ListN.{length}
use Rattle.lists.specs.Lists.{tab}
use Rattle.lists.proofs.Over.{join_over}
use Rattle.shift.specs.Starts.{entry_in}
use Rattle.shift.specs.Unrolled.{unrolled_of, block_of}
use Rattle.shift.proofs.shift_blocks.Given as goal

abbrev pub invariant-loop-k : goal.invariant-loop-k
invariant-loop-k l =
    (length l.t ≡ length l.initial.t)
    × (l.out ≡ join_over (l.n * l.rr) (λ (i : ℕ). tab (l.n * l.rr) (entry_in (unrolled_of l.boundary (block_of l.core (l.n * l.rr) i) l.n l.rr) l.forward l.ahead l.backward l.behind)) l.initial.out l.k)
