-- `numbers::whole`: within reach the floor's f64 is an integer that the cast gives back (floor_cast, Reach.antt).
use mathlib.Core.Path.{sym, ◌∙◌}
use Rattle.std.proofs.Common.{arith}
use Rattle.std.proofs.lemmas.Int.{to_z-of_z}
use denote.Floats.{passes}
use Rattle.numbers.proofs.Reach.{floor_cast, in_reach_small}
use Rattle.numbers.proofs.whole.Goals as goal

pub float_to_int-result : goal.float_to_int-result
float_to_int-result c = (floor_cast c.args.x _ (passes _ c.well_formed.0.1) (sym c.in_reach.ensures ∙ c.if-in_reach.true) c.floor.ensures).0

pub returns-then-in_reach : goal.returns-then-in_reach
returns-then-in_reach c =
    let e = (floor_cast c.args.x _ (passes _ c.well_formed.0.1) (sym c.in_reach.ensures ∙ c.if-in_reach.true) c.floor.ensures).1 in
    let s = in_reach_small c.args.x _ e in
    grind (arith, to_z-of_z)
