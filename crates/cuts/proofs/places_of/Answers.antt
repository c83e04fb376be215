-- `cuts::places_of`: each place is what its call answers; both sums stay within their offsets' limits (core_offset_fits, carry_offset_fits).
use Rattle.cutform.proofs.BondSlots.{carry_offset_fits}
use Rattle.shape.proofs.Offsets.{core_offset_fits}
use native.Mathlib.Nat.{le_refl}
use Rattle.cuts.proofs.places_of.Goals as goal

pub overflow_add-end : goal.overflow_add-end
overflow_add-end c = core_offset_fits c.args.s c.requires.sizes_within c.args.k c.args.s.d _ _ c.requires.k_lt_d (le_refl _) c.offset-at.ensures c.core_size.ensures

pub overflow_add-to : goal.overflow_add-to
overflow_add-to c = carry_offset_fits c.args.s c.requires.sizes_within c.args.k c.args.s.d _ _ c.requires.k_lt_d (le_refl _) c.carry_offset-mid.ensures c.carry_size.ensures

pub returns : goal.returns
returns c = cc (c.offset-at.ensures, c.core_size.ensures, c.carry_before-from.ensures, c.carry_offset-mid.ensures, c.carry_size.ensures)
