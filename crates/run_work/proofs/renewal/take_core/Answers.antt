-- `run_work::renewal::take_core`: the sources from zone z on, with the part over the first of them, are those of the source with the part put in (core_taken).
use native.Mathlib.Omega.{arith}
use Rattle.run_work.proofs.Sources.{core_fits, core_taken}
use Rattle.run_work.proofs.renewal.take_core.Goals as goal

pub put_at-requires : goal.put_at-requires
put_at-requires c = core_fits c.args.s c.args.z c.requires.z_lt_d.0 c.args.source.now c.args.part.now c.requires.z_lt_d.1 c.requires.z_lt_d.2 _ c.offset-at.ensures
    _ (omega (arith, c.requires.z_lt_d.3, c.take_sources.auto.work))

pub returns : goal.returns
returns c = core_taken c.args.s c.args.z c.requires.z_lt_d.0 c.args.source.now c.args.part.now c.requires.z_lt_d.1 c.requires.z_lt_d.2 _
    c.offset-at.ensures _ _ (omega (arith, c.requires.z_lt_d.3, c.take_sources.auto.work))
    c.take_sources.ensures c.put_at.ensures
