-- `columns::square`: the invariant: the first col places hold the sums of squares of their columns, and after the last all do (fill_all).
use Prim.Native.Nat.{ℕ}
use mathlib.Core.Path.{◌≡◌}
use mathlib.Core.List.{List}
use lib.ListN.{set}
use lib.Ieee.{Float}
use Rattle.lists.specs.Lists.{iter}
use Rattle.pairform.specs.Columns.{dot}
use Rattle.columns.proofs.square.Given as goal

abbrev pub invariant-loop-col : goal.invariant-loop-col
invariant-loop-col now = now.ss ≡ iter now.col (λ (k : ℕ) (l : List Float). set l k (dot now.m now.a k k)) now.initial.ss
