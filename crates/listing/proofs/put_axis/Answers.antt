-- `listing::put_axis`: five fields, one behind the other, are the axis's line (axis_put).
use native.Mathlib.Omega.{arith}
use Rattle.listing.proofs.Grows.{axis_put}
use Rattle.listing.proofs.put_axis.Goals as goal

pub returns : goal.returns
returns c = axis_put _ _ _ (omega (arith, c.requires.2)) _ _ c.requires.1
    c.put_field-a.ensures
    c.put_field-b.ensures
    c.put_field-c.ensures
    c.put_field-d.ensures c.put_field.ensures
