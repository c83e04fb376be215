-- `bond::values::keep_all`: values that are not finite stop it (chosen_stop); otherwise they have an order and a rank (chosen_end).
use borrow.Author.Rules.{rules}
use Rattle.std.proofs.lemmas.Result.{err_from_is_err_and}
use Rattle.answers.specs.Outcome.{outcome_of}
use Rattle.bond.proofs.Chosen.{chosen_stop, chosen_end, stored_finite}
use Rattle.bond.proofs.values.keep_all.Goals as goal

pub returns-in_err-stored : goal.returns-in_err-stored
unfolding outcome_of
returns-in_err-stored c =
    let p = err_from_is_err_and c.from_residual.result c.from_residual.ensures.1 in
    rw (p.1, p.2) (chosen_stop _ _ _ _ _ c.singular_values.ensures c.stored.ensures _ c.in_err-stored.was)

pub order-requires : goal.order-requires
order-requires c = (search rules, search rules, stored_finite _ _ c.stored.ensures c.in_ok-stored.was)

pub sorted-requires : goal.sorted-requires
sorted-requires c = (
  search rules,
  search rules,
  search rules,
  stored_finite _ _
      c.stored.ensures
      c.in_ok-stored.was,
  search rules,
)

pub returns : goal.returns
unfolding outcome_of
returns c = chosen_end _ _ _ _ _ c.singular_values.ensures c.stored.ensures c.in_ok-stored.was _ _ _ _
    c.order.ensures c.sorted.ensures c.kept_rank-rank.ensures c.dropped.ensures
