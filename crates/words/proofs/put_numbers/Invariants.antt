-- `words::put_numbers`: the invariant: the bytes of the first i numbers are written (write_more), and after the last those of all (numbers-written).
use mathlib.Core.Path.{◌≡◌}
use lib.ListN.{length}
use Rattle.words.proofs.Runs.{written}
use Rattle.words.proofs.put_numbers.Given as goal

abbrev pub invariant-loop-i : goal.invariant-loop-i
invariant-loop-i l = (length l.out ≡ length l.initial.out) × (l.out ≡ written l.list l.p l.initial.out l.i)
