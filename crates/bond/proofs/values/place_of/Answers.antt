-- `bond::values::place_of`: the count of those above, plus the count of equal ones before: the definition.
use Rattle.cutform.specs.Values.{place_in}
use Rattle.bond.proofs.values.place_of.Goals as goal

pub returns : goal.returns
unfolding place_in
returns c = rw (c.count_above.ensures.0, c.count_equal.ensures.0)
