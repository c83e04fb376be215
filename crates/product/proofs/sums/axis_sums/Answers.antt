-- `product::sums::axis_sums`: the core lies within its list (core_start_fits, core_ends).
use borrow.Author.Rules.{rules}
use Rattle.product.proofs.Slotted.{core_start_fits, core_ends}
use Prim.Native.Nat.{◌*◌, ◌^◌, ◌<◌}
use lib.ListN.{length}
use Rattle.product.proofs.sums.axis_sums.Goals as goal

pub offset_bounds-work-at : goal.offset_bounds-work-at
offset_bounds-work-at c = let small : length c.args.work.now * 8 < 2 ^ 63 = search rules in
    core_start_fits c.args.s c.args.t c.args.k c.args.work.now c.args.weights.now c.requires.2 c.requires.0 _ _
    c.offset-at.ensures c.core_size.ensures small

pub slice_bounds-sum_axis-end : goal.slice_bounds-sum_axis-end
slice_bounds-sum_axis-end c = core_ends c.args.s c.args.t c.args.k c.args.work.now c.args.weights.now c.requires.2 c.requires.0 _ _
    c.offset-at.ensures c.core_size.ensures
