-- `chainfile::body::numbers_ok`: the invariant: the first k cores are finite (Passed), and the next body's start is known.
use mathlib.Core.Path.{◌≡◌}
use Prim.Native.Nat.{ℕ}
use Rattle.lists.specs.Slots.{slot}
use Rattle.lists.specs.Floats.{all_finite}
use Rattle.lists.proofs.Demands.{Passed}
use Rattle.shape.specs.Shapes.{core_size}
use Rattle.fileform.specs.File.{body_start}
use Rattle.fileform.specs.Reading.{numbers_in}
use Rattle.chainfile.proofs.body.numbers_ok.Given as goal

abbrev pub invariant-loop-k : goal.invariant-loop-k
invariant-loop-k l = record {
  start : l.at ≡ body_start l.s l.k;
  passed : Passed (λ (j : ℕ). all_finite (slot (core_size l.s) j (numbers_in l.bytes l.s))) l.s.d l.k;
}
