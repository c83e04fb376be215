-- What a zone asks and leaves, by where it stands: Stands' zone_asks and zone_made. Assumes nothing.
use borrow.Author.Rules.{rules}
use Rattle.cuts.proofs.Stands.{zone_asks, zone_made, slot_lent, end_fits, start_fits}
use native.Mathlib.Omega.{arith}
use Rattle.cuts.specs.Slots.{held}
use lib.ListN.{length}
use Prim.Native.Nat.{◌*◌, ◌^◌, ◌<◌}
use Rattle.cuts.proofs.zone_cut.Goals as goal

pub offset_bounds-work-p : goal.offset_bounds-work-p
offset_bounds-work-p c = let h = held c.requires.k_lt_d.2.bonds c.args.work.now c.args.carries.now in
    let small : length c.args.work.now * 8 < 2 ^ 63 = search rules in
    record {
      fits = omega (
        arith,
        start_fits c.args.s 1 c.args.k _ h c.requires.sizes_within c.requires.k_lt_d.2.zone c.requires.k_lt_d.0 _ c.places_of-p.ensures,
        end_fits c.args.s 1 c.args.k _ h c.requires.sizes_within c.requires.k_lt_d.2.zone c.requires.k_lt_d.0 _ c.places_of-p.ensures,
        small,
      );
    }

pub slice_bounds-round_core-count : goal.slice_bounds-round_core-count
slice_bounds-round_core-count c = start_fits c.args.s 1 c.args.k _ (held c.requires.k_lt_d.2.bonds c.args.work.now c.args.carries.now) c.requires.sizes_within c.requires.k_lt_d.2.zone c.requires.k_lt_d.0 _ c.places_of-p.ensures

pub slice_bounds-round_core-start : goal.slice_bounds-round_core-start
slice_bounds-round_core-start c = start_fits c.args.s 1 c.args.k _ (held c.requires.k_lt_d.2.bonds c.args.work.now c.args.carries.now) c.requires.sizes_within c.requires.k_lt_d.2.zone c.requires.k_lt_d.0 _ c.places_of-p.ensures

pub slice_bounds-round_core-end : goal.slice_bounds-round_core-end
slice_bounds-round_core-end c = end_fits c.args.s 1 c.args.k _ (held c.requires.k_lt_d.2.bonds c.args.work.now c.args.carries.now) c.requires.sizes_within c.requires.k_lt_d.2.zone c.requires.k_lt_d.0 _ c.places_of-p.ensures

pub round_core-requires : goal.round_core-requires
round_core-requires c = let h = held c.requires.k_lt_d.2.bonds c.args.work.now c.args.carries.now in
    zone_asks c.args.s 1 c.args.k _ h c.requires.sizes_within c.requires.k_lt_d.2.zone c.requires.k_lt_d.0 _ c.places_of-p.ensures _ c.requires.k_lt_d.2.left _ _
    (slot_lent c.args.s 1 c.args.k _ h c.requires.sizes_within c.requires.k_lt_d.2.zone c.requires.k_lt_d.0 _ c.places_of-p.ensures) c.requires.k_lt_d.1

pub returns : goal.returns
returns c = λ ready.
    zone_made c.args.s 1 c.args.k _ (held ready.bonds c.args.work.now c.args.carries.now) c.requires.sizes_within ready.zone c.requires.k_lt_d.0 _ _ ready.left _ _ _ _
    c.places_of-p.ensures c.round_core.ensures.0 c.round_core.ensures.1 c.round_core.auto.slot
