-- `drawing::plans::starts`: a shape that passed its check has the sizes that the offsets ask for (fits_shaped).
use Rattle.shape.proofs.Shaped.{fits_shaped}
use Rattle.std.proofs.Common.{rules}
use Rattle.drawing.proofs.plans.starts.Goals as goal

pub offset-requires : goal.offset-requires
offset-requires c = record {
  sizes_within = (fits_shaped _ _ _ c.check.ensures c.in_default.is).sizes;
  k_le_d = search rules;
}

pub points_offset-requires : goal.points_offset-requires
points_offset-requires c = record {
  points_within = (fits_shaped _ _ _ c.check.ensures c.in_default.is).sizes.axes;
  k_le_d = search rules;
}

pub carry_offset-requires : goal.carry_offset-requires
carry_offset-requires c = record {
  sizes_within = (fits_shaped _ _ _ c.check.ensures c.in_default.is).sizes;
  k_le_d = search rules;
}

pub sum_offset-requires : goal.sum_offset-requires
sum_offset-requires c = record {
  sizes_within = (fits_shaped _ _ _ c.check.ensures c.in_default.is).sizes;
  k_le_d = search rules;
}
