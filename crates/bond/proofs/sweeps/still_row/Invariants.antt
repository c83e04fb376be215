-- `bond::sweeps::still_row`: the invariant: the flag says whether the pairs before column q are skipped (from_more).
use Prim.Native.Nat.{ℕ, ◌+◌}
use mathlib.Core.Path.{◌≡◌}
use mathlib.Core.Bool.{Bool, ◌&&◌}
use Rattle.lists.specs.Lists.{iter_from}
use Rattle.cutform.specs.Modes.{skipped}
use Rattle.bond.proofs.sweeps.still_row.Given as goal

abbrev pub invariant-loop-q : goal.invariant-loop-q
invariant-loop-q l = l.every ≡ iter_from (l.p + 1) l.q (λ (j : ℕ) (x : Bool). x && skipped l.mode l.n l.g l.p j) l.initial.every
