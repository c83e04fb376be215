-- `zones::files::uyavsker_read_chain`: the call, and its answer turned into a record (reads_as).
use Rattle.zones.proofs.Faces.{reads_as}
use Rattle.zones.proofs.files.uyavsker_read_chain.Goals as goal

pub returns : goal.returns
returns c = reads_as _ _ _ _ c.read_chain.ensures c.read_out.ensures
