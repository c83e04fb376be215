use Prim.Native.Nat.{◌*◌, ◌^◌, ◌<◌}
use native.Mathlib.Omega.{arith}
use mathlib.Core.Path.{ap, ◌∙◌}
use lib.ListN.{length}
use borrow.Author.Rules.{rules}
use Rattle.numbers.specs.Arithmetic.{zero64}
use Rattle.lists.proofs.Slots.{fit_length}
use Rattle.lists.proofs.Packs.{packing_none, packing_long, packed_most, from_end, at_end, packing_more, packing_done}
use Rattle.rounding.proofs.Rooms.{room_of}
use Rattle.rounding.proofs.packing.pack.Goals as goal

pub loop-k-init : goal.loop-k-init
loop-k-init c = packing_none _ _ _ _ _ (room_of c.args.s c.args.t c.args.work.now c.args.chain.now c.requires.sizes_within.2 c.requires.by_index c.requires.s_in_bounds.0 c.requires.s_in_bounds.1)

pub overflow_add-end : goal.overflow_add-end
overflow_add-end c = let e = at_end _ _ _ _ _ _ _ _ _ c.loop-k.invariant c.loop-k-test.true _ c.core_size-size.ensures in
    let h : length c.args.chain.now * 8 < 2 ^ 63 = search rules in
    record { fits = omega (arith, e, packing_long _ _ _ _ _ _ _ _ _ c.loop-k.invariant, h) }

pub overflow_add-from : goal.overflow_add-from
overflow_add-from c = let e = from_end _ _ _ _ _ _ _ _ _ c.loop-k.invariant c.loop-k-test.true _ c.core_size-size.ensures in
    let h : length c.args.work.now * 8 < 2 ^ 63 = search rules in
    record { fits = omega (arith, e, h) }

pub slice_bounds-copy-end : goal.slice_bounds-copy-end
slice_bounds-copy-end c = from_end _ _ _ _ _ _ _ _ _ c.loop-k.invariant c.loop-k-test.true _ c.core_size-size.ensures

pub offset_bounds-chain-at : goal.offset_bounds-chain-at
offset_bounds-chain-at c = let h : length c.args.chain.now * 8 < 2 ^ 63 = search rules in
    record { fits = omega (arith, packed_most _ _ _ _ _ _ _ _ _ c.loop-k.invariant, packing_long _ _ _ _ _ _ _ _ _ c.loop-k.invariant, h) }

pub slice_bounds-copy-end-in-loop-k : goal.slice_bounds-copy-end-in-loop-k
slice_bounds-copy-end-in-loop-k c = at_end _ _ _ _ _ _ _ _ _ c.loop-k.invariant c.loop-k-test.true _ c.core_size-size.ensures

pub loop-k-preserved : goal.loop-k-preserved
loop-k-preserved c = packing_more _ _ _ _ _ _ _ _ _ c.loop-k.invariant c.loop-k-test.true _ c.core_size-size.ensures _ c.core_size-from.ensures _ c.copy.ensures

pub offset_bounds-chain-at-2 : goal.offset_bounds-chain-at-2
offset_bounds-chain-at-2 c = let h : length c.args.chain.now * 8 < 2 ^ 63 = search rules in
    record { fits = omega (arith, packed_most _ _ _ _ _ _ _ _ _ c.loop-k.invariant, packing_long _ _ _ _ _ _ _ _ _ c.loop-k.invariant, h) }

pub slice_bounds-fill-count : goal.slice_bounds-fill-count
slice_bounds-fill-count c = packed_most _ _ _ _ _ _ _ _ _ c.loop-k.invariant

pub slice_bounds-fill-start : goal.slice_bounds-fill-start
slice_bounds-fill-start c = packed_most _ _ _ _ _ _ _ _ _ c.loop-k.invariant

pub shape_of-chain : goal.shape_of-chain
shape_of-chain c = ap length ((packing_done _ _ _ _ _ _ _ _ _ c.loop-k.invariant c.loop-k-test.false zero64 _ c.fill.ensures)) ∙ fit_length zero64 _ _

pub returns : goal.returns
returns c = packing_done _ _ _ _ _ _ _ _ _ c.loop-k.invariant c.loop-k-test.false zero64 _ c.fill.ensures
