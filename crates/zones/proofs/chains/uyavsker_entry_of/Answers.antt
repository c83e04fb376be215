-- `zones::chains::uyavsker_entry_of`: the record turned into the core's shape, the call, and its answer turned back (passed).
use Rattle.shape.specs.declared.Shape.{Shape}
use Rattle.view.specs.View.{view_of, seen}
use Rattle.records.specs.Told.{seen_out}
use Rattle.zones.proofs.Faces.{passed}
use Rattle.zones.proofs.chains.uyavsker_entry_of.Goals as goal

pub returns : goal.returns
returns c = passed (λ (x : Shape). seen (view_of c.args.chain x c.args.k) c.args.il c.args.im c.args.ir) seen_out _ _ _ _ c.into.ensures
    c.entry_of.ensures c.into-2.ensures
