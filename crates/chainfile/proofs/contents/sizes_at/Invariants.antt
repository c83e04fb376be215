-- `chainfile::contents::sizes_at`: the invariant: the first k sizes are read, and zeros follow (fit_more).
use Prim.Native.Nat.{ℕ, ◌+◌}
use mathlib.Core.Path.{◌≡◌}
use Rattle.lists.specs.Lists.{tab}
use Rattle.lists.specs.Slots.{fit}
use Rattle.shape.specs.Limits.{most_axes}
use Rattle.words.specs.Bytes.{u16_at}
use Rattle.fileform.specs.File.{entry_start}
use Rattle.chainfile.proofs.contents.sizes_at.Given as goal

abbrev pub invariant-loop-k : goal.invariant-loop-k
invariant-loop-k l = l.sizes ≡ fit 0 most_axes (tab l.k (λ (j : ℕ). u16_at l.bytes (entry_start j + l.at)))
