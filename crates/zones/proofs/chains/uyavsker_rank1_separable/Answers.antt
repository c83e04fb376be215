-- `zones::chains::uyavsker_rank1_separable`: the record turned into the core's shape, the call, and its answer turned back (starts_as).
use Rattle.shape.specs.declared.Shape.{Shape}
use Rattle.sumform.specs.Start.{start_call}
use Rattle.zones.proofs.Faces.{starts_as}
use Rattle.zones.proofs.chains.uyavsker_rank1_separable.Goals as goal

pub returns : goal.returns
returns c = starts_as (λ (x : Shape). start_call x c.args.vectors.now c.args.chain.now) _ _ _ _ _ c.into-shape.ensures
    c.rank1_separable.ensures c.started_out.ensures
