-- `zones::pairs::uyavsker_contract_and_split`: both records turned into the core's sizes, the call, and its answer turned back (splits_as).
use Rattle.pairform.specs.declared.Sizes.{Sizes}
use Rattle.pairform.specs.Call.{core_of, pair_call}
use Rattle.zones.proofs.Faces.{splits_as}
use Rattle.zones.proofs.pairs.uyavsker_contract_and_split.Goals as goal

pub returns : goal.returns
returns c = splits_as
    (λ (x : Sizes) (u : Sizes). pair_call (core_of x c.args.left.now) (core_of u c.args.right.now) c.args.eps c.args.lefts.now c.args.rights.now c.args.scratch.now) _ _ _
    _ _ _ _ _ _ c.into.ensures
    c.into-2.ensures
    c.contract_and_split.ensures c.paired_out.ensures
