-- `rounding::round_all`: the walk that `round_from` made over the loaded chain is the rounding of its cores, and `finish` leaves the call's end (ended_is).
use borrow.Author.Rules.{rules}
use Rattle.rounding.proofs.Ends.{start_at, ended_is}
use native.Mathlib.Omega.{arith}
use mathlib.Core.Path.{◌≡◌, refl, sym, ◌∙◌}
use lib.ListN.{length}
use Rattle.shape.specs.Limits.{most_axes}
use Rattle.shape.proofs.Shaped.{shaped}
use Rattle.rounding.proofs.round_all.Goals as goal

pub load-requires : goal.load-requires
load-requires c = omega (arith, c.requires.chain_len.0, c.requires.chain_len.1)

pub round_from-w-requires : goal.round_from-w-requires
round_from-w-requires c = let h = shaped c.args.s _ c.requires.s_value in
    let a : length c.args.s.left ≡ most_axes = search rules in
    let b : length c.args.s.right ≡ most_axes = search rules in record {
      sizes_within = h.sizes;
      z_le_d = (
        omega arith,
        omega arith,
        start_at _ _ _ _ h c.unrounded.ensures a b
            (omega (arith, c.requires.chain_len.1, c.load.auto.scratch)) (omega arith),
      );
    }

pub finish-requires : goal.finish-requires
finish-requires c = let h = shaped c.args.s _ c.requires.s_value in
    record {
      sizes_within = h.sizes;
      inside = (
        c.round_from-w.ensures.1 refl,
        omega (arith, c.requires.chain_len.0),
        omega (
          arith,
          c.requires.chain_len.1,
          c.round_from-w.auto.work,
          c.load.auto.scratch,
        ),
      );
    }

pub shape_of-scratch : goal.shape_of-scratch
shape_of-scratch c = c.finish.auto.scratch ∙ c.round_from-w.auto.work ∙ c.load.auto.scratch

pub returns : goal.returns
returns c = let h = shaped c.args.s _ c.requires.s_value in
    c.finish.ensures ∙ sym
    (ended_is c.args.cutting c.args.s c.args.chain.now c.args.scratch.now _ c.requires.chain_len.0 c.load.ensures
    (omega (arith, c.requires.chain_len.1, c.load.auto.scratch)) h _
    c.unrounded.ensures _ _ _ _
    c.round_from-w.ensures.0 (c.round_from-w.ensures.1 refl) (c.round_from-w.auto.work ∙ c.load.auto.scratch))
