-- The invariant: the zones before k are turned, and the rank that came with the last bond stands left of zone k. Assumes nothing.
use mathlib.Core.Path.{◌≡◌}
use Prim.Native.Nat.{◌-◌, ◌<◌}
use Rattle.lists.specs.Walks.{turning}
use Rattle.cutform.specs.Keeping.{round_from}
use Rattle.cuts.specs.Slots.{held, zone_turn, rank_left, AtZone}
use Rattle.cuts.proofs.round_from.Given as goal

abbrev pub invariant-loop-k : goal.invariant-loop-k
invariant-loop-k l = record {
  rank : l.k < l.s.d → l.r ≡ rank_left l.k l.shape l.bonds;
  zone : AtZone l.s l.z l.k l.shape (held l.bonds l.work l.carries);
  left : round_from l.cutting l.s l.z l.initial.shape (held l.initial.bonds l.initial.work l.initial.carries) ≡ turning (l.s.d - l.k) l.k (zone_turn l.cutting l.s) (l.shape, held l.bonds l.work l.carries);
}
