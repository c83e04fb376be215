-- `zones::chains::uyavsker_tt_round`: the shape and how it is cut turned into the core's, the call, and its answer turned back (ends_as).
use Rattle.shape.specs.declared.Shape.{Shape}
use Rattle.cutform.specs.declared.Cutting.{Cutting}
use Rattle.cutform.specs.Call.{round_call}
use Rattle.zones.proofs.Faces.{ends_as}
use Rattle.zones.proofs.chains.uyavsker_tt_round.Goals as goal

pub returns : goal.returns
returns c = ends_as (λ (x : Shape) (y : Cutting). round_call x y c.args.chain.now c.args.scratch.now) _ _ _ _ _ _ _ _
    c.into.ensures c.into-2.ensures c.tt_round.ensures c.rounded_out.ensures
