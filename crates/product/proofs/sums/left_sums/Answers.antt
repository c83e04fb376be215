-- `product::sums::left_sums`: the r sums lie within the slot before (left_end).
use Rattle.product.proofs.Slotted.{left_end}
use Prim.Native.Nat.{◌≤◌}
use native.Mathlib.Omega.{arith}
use Rattle.product.proofs.sums.left_sums.Goals as goal

pub slice_bounds-copy-end : goal.slice_bounds-copy-end
slice_bounds-copy-end c = let l : 1 ≤ c.args.k = omega arith in
    left_end c.args.s c.args.k c.args.r c.args.sums.now c.args.eta.now l c.requires.k_lt_d.0 c.requires.k_lt_d.1 (c.requires.k_lt_d.5 l) _
    c.sum_offset-at.ensures
