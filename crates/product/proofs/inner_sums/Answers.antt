use Rattle.std.proofs.lemmas.Result.{err_from_is_err_and}
use native.Mathlib.Omega.{arith}
use Prim.Native.Nat.{◌*◌, ◌^◌, ◌<◌}
use lib.ListN.{length}
use mathlib.Core.Path.{refl}
use borrow.Author.Rules.{rules}
use Rattle.shape.proofs.Shaped.{shaped}
use Rattle.product.proofs.Walking.{at_first, axis_asks, at_next, points_end, axis_stops, at_end}
use Rattle.product.proofs.inner_sums.Goals as goal

pub loop-k-init : goal.loop-k-init
loop-k-init c = at_first _ _ _ c.requires.s_value

pub core_size-requires-clause-sizes_within : goal.core_size-requires-clause-sizes_within
core_size-requires-clause-sizes_within c = (shaped c.args.s _ c.requires.s_value).sizes

pub overflow_add-last : goal.overflow_add-last
overflow_add-last c = let e = points_end c.args.s c.args.chain.now c.args.weights.now c.requires.s_value c.requires.s_in_bounds.0 c.requires.s_in_bounds.1
    c.loop-k.eta c.loop-k.rank c.loop-k.at c.loop-k.points c.loop-k.k c.loop-k.invariant c.loop-k-test.true _ refl in
    let h : (length c.args.weights.now) * 8 < 2 ^ 63 = search rules in
    record { fits = omega (arith, e, h) }

pub slice_bounds-sum_axis-end-in-loop-k : goal.slice_bounds-sum_axis-end-in-loop-k
slice_bounds-sum_axis-end-in-loop-k c = points_end c.args.s c.args.chain.now c.args.weights.now c.requires.s_value c.requires.s_in_bounds.0 c.requires.s_in_bounds.1 c.loop-k.eta c.loop-k.rank c.loop-k.at c.loop-k.points c.loop-k.k
    c.loop-k.invariant c.loop-k-test.true _ refl

pub sum_axis-stage-requires : goal.sum_axis-stage-requires
sum_axis-stage-requires c = axis_asks c.args.s c.args.chain.now c.args.weights.now c.requires.s_value c.requires.s_in_bounds.0 c.requires.s_in_bounds.1 c.loop-k.eta c.loop-k.rank c.loop-k.at c.loop-k.points c.loop-k.k
    c.loop-k.invariant c.loop-k-test.true c.core_size.result c.core_size.ensures

pub returns-in_err-stored_in : goal.returns-in_err-stored_in
returns-in_err-stored_in c = let p = err_from_is_err_and c.from_residual.result c.from_residual.ensures.1 in
    rw (p.1, p.2) (axis_stops c.args.s c.args.chain.now c.args.weights.now c.requires.s_value c.requires.s_in_bounds.0 c.requires.s_in_bounds.1 c.loop-k.eta c.loop-k.rank c.loop-k.at c.loop-k.points c.loop-k.k
    c.loop-k.invariant c.loop-k-test.true c.core_size.result c.core_size.ensures c.sum_axis-stage.result _
    c.sum_axis-stage.auto.eta c.sum_axis-stage.ensures _ c.in_err-stored_in.ensures)

pub loop-k-preserved : goal.loop-k-preserved
loop-k-preserved c = at_next c.args.s c.args.chain.now c.args.weights.now c.requires.s_value c.requires.s_in_bounds.0 c.requires.s_in_bounds.1 c.loop-k.eta c.loop-k.rank c.loop-k.at c.loop-k.points c.loop-k.k
    c.loop-k.invariant c.loop-k-test.true c.core_size.result
    c.core_size.ensures c.sum_axis-stage.result _ c.sum_axis-stage.auto.eta c.sum_axis-stage.ensures c.in_ok-stored_in.ensures

pub returns : goal.returns
returns c = at_end _ _ _ c.requires.s_value _ _ _ _ _ c.loop-k.invariant c.loop-k-test.false
