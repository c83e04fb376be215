-- `cuts::zone::round_core`: the carry is taken in or stops it (zone_stops), then the cut (zone_goes); of the carries only the zone's own part is written (part_same, part_anew).
use Rattle.cuts.proofs.Zoned.{fewer_rows, zone_stops, zone_goes, part_long, part_same, part_read, part_anew}
use native.Mathlib.Omega.{arith}
use Rattle.std.proofs.lemmas.Result.{err_from_is_err_and}
use Rattle.answers.specs.Outcome.{outcome_of}
use Rattle.cuts.proofs.zone.round_core.Goals as goal

pub taken-requires : goal.taken-requires
taken-requires c = let f = fewer_rows c.args.r c.args.rl c.args.n c.args.rr c.requires.rows in
    let m = part_long c.args.from c.args.mid c.args.carries.now c.requires.left (omega (arith, c.requires.right, c.requires.held)) in (
      c.requires.core,
      f,
      omega (arith, f, c.requires.core),
      omega (arith, f, c.requires.copy),
      omega (arith, c.requires.least, c.requires.rows),
      c.requires.columns,
      c.requires.first,
      λ l. omega
          (arith, c.requires.taken l, m),
    )

pub returns-in_err-taken : goal.returns-in_err-taken
unfolding outcome_of
returns-in_err-taken c =
    let p = err_from_is_err_and c.from_residual.result c.from_residual.ensures.1 in (
      rw (p.1, p.2) (zone_stops _ _ _ _ _ _ _ c.taken.ensures _ _ _ c.in_err-taken.was),
      part_same c.args.mid c.args.to c.args.carries.now c.requires.right c.requires.held,
    )

pub cut_if-requires : goal.cut_if-requires
cut_if-requires c = let f = fewer_rows c.args.r c.args.rl c.args.n c.args.rr c.requires.rows in
    let m = part_long c.args.mid c.args.to c.args.carries.now c.requires.right c.requires.held in (
      omega (arith, f, c.requires.core, c.taken.auto.slot),
      omega (arith, f, c.requires.copy, c.taken.auto.room),
      c.requires.least,
      c.requires.points,
      c.requires.columns,
      c.requires.few,
      λ h. omega
          (arith, c.requires.carry h, m),
      λ h. omega (arith, c.requires.ends h, m),
    )

pub returns : goal.returns
returns c =
    let m = part_long c.args.mid c.args.to c.args.carries.now c.requires.right c.requires.held in (
      zone_goes _ _ _ _ _ _ _ c.taken.ensures _ _ c.in_ok-taken.was _ _ _ _ _ _ _ c.cut_if.ensures c.taken.auto.slot m
          (part_read c.args.mid c.args.to c.args.carries.now c.requires.right c.requires.held c.cut_if.new.carry c.cut_if.auto.carry),
      part_anew c.args.mid c.args.to c.args.carries.now c.requires.right c.requires.held c.cut_if.new.carry
          c.cut_if.auto.carry,
    )
