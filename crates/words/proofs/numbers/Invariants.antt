-- `words::numbers`: the invariant: the first i places hold the numbers read (tabs_more), and after the last the list is the one read (numbers_done).
use Prim.Native.Nat.{ℕ, ◌+◌, ◌*◌}
use mathlib.Core.Path.{◌≡◌}
use lib.ListN.{length}
use Rattle.lists.proofs.Over.{tab_over}
use Rattle.words.specs.Bytes.{f64_at}
use Rattle.words.proofs.numbers.Given as goal

abbrev pub invariant-loop-i : goal.invariant-loop-i
invariant-loop-i l = (length l.out ≡ length l.initial.out) × (l.out ≡ tab_over (λ (j : ℕ). f64_at l.bytes (l.p + 8 * j)) l.initial.out l.i)
