-- `pair::refusals::lent`: the lengths in the order of the definition: the first that is wrong is the answer (same_no), and one that is right is left behind (same_yes).
use native.Mathlib.Omega.{arith}
use Rattle.lists.proofs.Asked.{length_wrong, length_right}
use Rattle.pairform.specs.Call.{core_numbers, left_room, right_room, pair_lent}
use Rattle.pair.proofs.Verdicts.{same_no, same_yes, two_fit, three_fit, sized_small}
use Rattle.pair.proofs.refusals.lent.Goals as goal

pub overflow_mul-l : goal.overflow_mul-l
unfolding pair_lent core_numbers left_room right_room
overflow_mul-l c = let b = sized_small _ _ c.requires in two_fit _ _ b.0.rl b.0.n

pub overflow_mul-l-2 : goal.overflow_mul-l-2
unfolding pair_lent core_numbers left_room right_room
overflow_mul-l-2 c = let b = sized_small _ _ c.requires in three_fit _ _ _ b.0.rl b.0.n b.0.rr

pub returns-then-left-l : goal.returns-then-left-l
unfolding pair_lent core_numbers left_room right_room
returns-then-left-l c = same_no _ _ _ _ c.if-left-l.true

pub overflow_mul-r : goal.overflow_mul-r
unfolding pair_lent core_numbers left_room right_room
overflow_mul-r c = let b = sized_small _ _ c.requires in two_fit _ _ b.1.rl b.1.n

pub overflow_mul-r-2 : goal.overflow_mul-r-2
unfolding pair_lent core_numbers left_room right_room
overflow_mul-r-2 c = let b = sized_small _ _ c.requires in three_fit _ _ _ b.1.rl b.1.n b.1.rr

pub returns-then-right-r : goal.returns-then-right-r
unfolding pair_lent core_numbers left_room right_room
returns-then-right-r c = same_yes _ _ _ _ c.if-left-l.false _ (same_no _ _ _ _ c.if-right-r.true)

pub overflow_mul-l-3 : goal.overflow_mul-l-3
unfolding pair_lent core_numbers left_room right_room
overflow_mul-l-3 c = let b = sized_small _ _ c.requires in two_fit _ _ b.0.rl b.0.n

pub overflow_mul-l-4 : goal.overflow_mul-l-4
unfolding pair_lent core_numbers left_room right_room
overflow_mul-l-4 c = let b = sized_small _ _ c.requires in three_fit _ _ 8 b.0.rl b.0.n (omega arith)

pub returns-then-lefts-l : goal.returns-then-lefts-l
unfolding pair_lent core_numbers left_room right_room
returns-then-lefts-l c = same_yes _ _ _ _ c.if-left-l.false _ (same_yes _ _ _ _ c.if-right-r.false _ (same_no _ _ _ _ c.if-lefts-l.true))

pub overflow_mul-r-3 : goal.overflow_mul-r-3
unfolding pair_lent core_numbers left_room right_room
overflow_mul-r-3 c = let b = sized_small _ _ c.requires in two_fit 8 _ (omega arith) b.1.n

pub overflow_mul-r-4 : goal.overflow_mul-r-4
unfolding pair_lent core_numbers left_room right_room
overflow_mul-r-4 c = let b = sized_small _ _ c.requires in three_fit 8 _ _ (omega arith) b.1.n b.1.rr

pub returns-then-rights-r : goal.returns-then-rights-r
unfolding pair_lent core_numbers left_room right_room
returns-then-rights-r c = same_yes _ _ _ _ c.if-left-l.false _
    (same_yes _ _ _ _ c.if-right-r.false _
    (same_yes _ _ _ _ c.if-lefts-l.false _ (same_no _ _ _ _ c.if-rights-r.true)))

pub returns-then-scratch-ne-PAIR_SCRATCH : goal.returns-then-scratch-ne-PAIR_SCRATCH
unfolding pair_lent core_numbers left_room right_room
returns-then-scratch-ne-PAIR_SCRATCH c = same_yes _ _ _ _ c.if-left-l.false _
    (same_yes _ _ _ _ c.if-right-r.false _
    (same_yes _ _ _ _ c.if-lefts-l.false _ (same_yes _ _ _ _ c.if-rights-r.false _ (length_wrong _ _ _ c.if-scratch-ne-PAIR_SCRATCH.true))))

pub returns : goal.returns
unfolding pair_lent core_numbers left_room right_room
returns c = same_yes _ _ _ _ c.if-left-l.false _
    (same_yes _ _ _ _ c.if-right-r.false _
    (same_yes _ _ _ _ c.if-lefts-l.false _ (same_yes _ _ _ _ c.if-rights-r.false _ (length_right _ _ _ c.if-scratch-ne-PAIR_SCRATCH.false))))
