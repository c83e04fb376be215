-- `run_work::renewal::put_core`: the core of zone z lies within the source (core_fits), and putting it there leaves the rest as it was (core_put).
use native.Mathlib.Nat.{le_refl}
use Rattle.run_work.proofs.Sources.{core_fits, core_put}
use Rattle.run_work.proofs.renewal.put_core.Goals as goal

pub put_at-requires : goal.put_at-requires
put_at-requires c = core_fits c.args.s c.args.z c.requires.z_lt_d.0 c.args.source.now c.args.part.now c.requires.z_lt_d.1 c.requires.z_lt_d.2 _ c.offset-at.ensures
    _ (le_refl _)

pub returns : goal.returns
returns c = core_put c.args.s c.args.z c.requires.z_lt_d.0 c.args.source.now c.args.part.now c.requires.z_lt_d.1 c.requires.z_lt_d.2 _
    c.offset-at.ensures _ c.put_at.ensures
