-- `zones::files::uyavsker_write_chain`: the record turned into the core's shape, the call, and its answer turned back (writes_as).
use Rattle.shape.specs.declared.Shape.{Shape}
use Rattle.fileform.specs.Writing.{write_call}
use Rattle.zones.proofs.Faces.{writes_as}
use Rattle.zones.proofs.files.uyavsker_write_chain.Goals as goal

pub returns : goal.returns
returns c = writes_as (λ (x : Shape). write_call x c.args.chain.now c.args.out.now) _ _ _ _ _ c.into.ensures
    c.write_chain.ensures c.refusal_of.ensures
