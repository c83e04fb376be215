-- `bond::factors::factor`: the fronts of the lists meet what `left_and_carry` asks (columns_room, columns_front), and hold what it leaves (factor_front).
use native.Mathlib.Omega.{arith}
use mathlib.Core.Path.{◌∙◌}
use native.Mathlib.Nat.{mul_comm}
use Rattle.lists.proofs.Parts.{span_length}
use Rattle.bond.proofs.Finished.{factor_front, columns_front, columns_room, span_some}
use Rattle.bond.proofs.factors.factor.Goals as goal

pub overflow_mul-m : goal.overflow_mul-m
overflow_mul-m c = record { fits = omega (arith, columns_room _ _ _ c.requires.6 c.requires.7) }

pub slice_bounds-left_and_carry-end-4 : goal.slice_bounds-left_and_carry-end-4
slice_bounds-left_and_carry-end-4 c = columns_room _ _ _ c.requires.6 c.requires.7

pub slice_bounds-left_and_carry-end-5 : goal.slice_bounds-left_and_carry-end-5
slice_bounds-left_and_carry-end-5 c = columns_room _ _ _ c.requires.6 c.requires.8

pub left_and_carry-requires : goal.left_and_carry-requires
left_and_carry-requires c = (
  c.requires.0,
  c.requires.1,
  span_length _ _ c.requires.2,
  span_some _ _ c.requires.3 _ c.requires.6,
  columns_front _ _ _ c.requires.4,
  span_some _ _ c.requires.5 _ c.requires.6,
  c.requires.6,
  span_length _ _ (columns_room _ _ _ c.requires.6 c.requires.7),
  span_length _ _
      (columns_room _ _ _ c.requires.6 c.requires.8) ∙ mul_comm _ _,
  c.requires.9,
)

pub returns : goal.returns
returns c = factor_front _ _ _ _ _ _ c.args.carry.now c.args.ss.now c.args.v.now c.args.js.now c.args.r c.args.rr
    c.left_and_carry.ensures c.carry-1.given.0
    (columns_room _ _ _ c.requires.6 c.requires.8)
