-- `run_work::renewal::take_sources`: the sources from zone z on lie within the list (source_fits), and are taken to the same places (sources_taken).
use Rattle.run_work.proofs.Sources.{source_starts, source_start_fits, source_fits, sources_taken}
use Rattle.run_work.proofs.renewal.take_sources.Goals as goal

pub offset_bounds-source-at : goal.offset_bounds-source-at
offset_bounds-source-at c = source_start_fits c.args.s c.args.z c.requires.z_le_d.0 c.args.source.now c.args.work.now c.requires.z_le_d.1 c.requires.z_le_d.2 _ c.offset-at.ensures
    c.requires.sizes_within

pub slice_bounds-put_at-count : goal.slice_bounds-put_at-count
slice_bounds-put_at-count c = source_starts c.args.s c.args.z c.requires.z_le_d.0 c.args.source.now c.args.work.now c.requires.z_le_d.1 c.requires.z_le_d.2 _ c.offset-at.ensures

pub slice_bounds-put_at-start : goal.slice_bounds-put_at-start
slice_bounds-put_at-start c = source_starts c.args.s c.args.z c.requires.z_le_d.0 c.args.source.now c.args.work.now c.requires.z_le_d.1 c.requires.z_le_d.2 _ c.offset-at.ensures

pub put_at-requires : goal.put_at-requires
put_at-requires c = source_fits c.args.s c.args.z c.requires.z_le_d.0 c.args.source.now c.args.work.now c.requires.z_le_d.1 c.requires.z_le_d.2 _
    c.offset-at.ensures

pub returns : goal.returns
returns c = sources_taken c.args.s c.args.z c.requires.z_le_d.0 c.args.source.now c.args.work.now c.requires.z_le_d.1 c.requires.z_le_d.2 _
    c.offset-at.ensures _ _ c.put_at.ensures
