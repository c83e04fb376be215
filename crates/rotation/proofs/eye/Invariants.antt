-- `rotation::eye`: the invariant: the first i diagonal entries are one, over a list of zeros; after the last it is the unit matrix (eye_is).
use Prim.Native.Nat.{ℕ, ◌+◌, ◌*◌}
use mathlib.Core.Path.{◌≡◌}
use mathlib.Core.List.{List}
use lib.ListN.{length, set}
use lib.Ieee.{Float}
use Rattle.numbers.specs.Arithmetic.{one64}
use Rattle.lists.specs.Lists.{iter}
use Rattle.rotation.proofs.eye.Given as goal

abbrev pub invariant-loop-i : goal.invariant-loop-i
invariant-loop-i now = (length now.v ≡ length now.initial.v) × (now.v ≡ iter now.i (λ (j : ℕ) (l : List Float). set l (j * now.n + j) one64) now.initial.v)
