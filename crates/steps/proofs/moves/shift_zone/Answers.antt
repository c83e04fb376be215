-- `steps::moves::shift_zone`: room holds the core (stand_held), its shift goes back to its place (stand_shifted), and no other zone is touched (stand_others).
use Rattle.steps.proofs.Standings.{stands_below, stand_end, stand_small, stand_held, stand_lent, stand_reaches, stand_others, stand_shifted}
use native.Mathlib.Omega.{arith}
use Rattle.steps.proofs.moves.shift_zone.Goals as goal

pub hold-requires : goal.hold-requires
hold-requires c = (
  stand_end _ _ _ c.requires.stands.0 _ c.requires.k_lt_d.0 _ _ c.core_size-size.ensures c.offset-at.ensures,
  omega (
    arith,
    stand_small _ _ _ c.requires.stands.0 _ c.requires.k_lt_d.0 _ _ c.core_size-size.ensures c.offset-at.ensures,
    c.requires.stands.1.core,
  ),
)

pub shift_of-far-requires : goal.shift_of-far-requires
shift_of-far-requires c = (c.requires.stands.0.inside.sizes.axes.points _
    (stands_below _ _ _ c.requires.stands.0 _ c.requires.k_lt_d.0 _ _ c.core_size-size.ensures
    c.offset-at.ensures)).1

pub move_back-requires : goal.move_back-requires
move_back-requires c = record {
  size_in_bounds = (
    omega (arith, stand_small _ _ _ c.requires.stands.0 _ c.requires.k_lt_d.0 _ _ c.core_size-size.ensures c.offset-at.ensures, c.requires.stands.1.core, c.hold.auto.room),
    stand_end _ _ _ c.requires.stands.0 _ c.requires.k_lt_d.0 _ _ c.core_size-size.ensures c.offset-at.ensures,
  );
  lent = (
    stand_lent _ _ _ c.requires.stands.0 _ c.requires.k_lt_d.0 _ _ c.core_size-size.ensures c.offset-at.ensures _ _ c.hold.ensures _ _
        c.requires.stands.1,
    stand_reaches _ _ _ c.requires.stands.0 _ c.requires.k_lt_d.0 _ _ c.core_size-size.ensures c.offset-at.ensures _ _
        c.hold.ensures
        c.args.set _
        _ c.shift_of-far.ensures c.requires.k_lt_d.1,
  );
}

pub returns : goal.returns
returns c = record {
  x_value = stand_shifted _ _ _ c.requires.stands.0 _ c.requires.k_lt_d.0 _ _ c.core_size-size.ensures c.offset-at.ensures _
      c.move_back.auto.work _ _ _ _ _
      c.shift_of-far.ensures
      (stand_held _ _ _ c.requires.stands.0 _ c.requires.k_lt_d.0 _ _ c.core_size-size.ensures c.offset-at.ensures _ _
      c.hold.ensures) c.move_back.ensures.room_value;
  elsewhere = stand_others _ _ _ c.requires.stands.0 _ c.requires.k_lt_d.0 _ _ c.core_size-size.ensures c.offset-at.ensures _
      c.move_back.auto.work c.move_back.ensures.work_after;
}
