-- `zones::chains::uyavsker_shape_check`: the record turned into the core's shape, the call, and its answer turned back (passed).
use Rattle.shape.specs.declared.Shape.{Shape}
use Rattle.shape.specs.Shapes.{chain_ok}
use Rattle.records.specs.Told.{refusal_of}
use Rattle.zones.proofs.Faces.{passed}
use Rattle.zones.proofs.chains.uyavsker_shape_check.Goals as goal

pub returns : goal.returns
returns c = passed (λ (x : Shape). (chain_ok x)) refusal_of _ _ _ _ c.from.ensures c.check.ensures c.refusal_of.ensures
