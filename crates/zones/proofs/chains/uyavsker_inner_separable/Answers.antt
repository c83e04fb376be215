-- `zones::chains::uyavsker_inner_separable`: the record turned into the core's shape, the call, and its answer turned back (passed).
use Rattle.shape.specs.declared.Shape.{Shape}
use Rattle.sumform.specs.Call.{inner_call}
use Rattle.records.specs.Told.{figure_out}
use Rattle.zones.proofs.Faces.{passed}
use Rattle.zones.proofs.chains.uyavsker_inner_separable.Goals as goal

pub returns : goal.returns
returns c = passed (λ (x : Shape). inner_call x c.args.chain.now c.args.weights.now) figure_out _ _ _ _ c.into.ensures
    c.inner_separable.ensures c.figure_out.ensures
