-- `run_work::weights::commit`: the part is put among the weights (part_in), the sums copied over from zone z on, and the figure read from the last (figure_in).
use native.Mathlib.Omega.{arith}
use mathlib.Core.Path.{ap, ◌∙◌}
use Prim.Native.Nat.{ℕ}
use mathlib.Core.List.{◌++◌}
use lib.ListN.{length, take, drop}
use Rattle.lists.specs.Floats.{at}
use Rattle.sumform.specs.Sums.{sum_size}
use Rattle.lists.proofs.Slots.{offset_mono}
use Rattle.run_work.proofs.Placed.{part_ends, part_in, figure_fits, figure_in}
use Rattle.run_work.proofs.weights.commit.Goals as goal

pub put_at-requires : goal.put_at-requires
put_at-requires c = part_ends c.args.s c.args.z c.args.part.now c.args.weights.now c.requires.z_lt_d.0 c.requires.z_lt_d.1 c.requires.z_lt_d.2 _
    c.points_offset-point.ensures

pub copy_from-requires : goal.copy_from-requires
copy_from-requires c = (
  omega
      (arith, c.sum_offset-from.ensures, c.requires.z_lt_d.3, offset_mono (sum_size c.args.s) c.args.z c.args.s.d (omega (arith, c.requires.z_lt_d.0))),
  c.requires.sizes_within.1,
)

pub offset_bounds-sums-last : goal.offset_bounds-sums-last
offset_bounds-sums-last c = figure_fits c.args.s c.requires.sizes_within.0 _ c.sum_offset-last.ensures

pub bounds-sums-last : goal.bounds-sums-last
bounds-sums-last c = figure_in c.args.s c.requires.sizes_within.0 _ c.sum_offset-last.ensures _
    (c.copy_from.auto.to ∙ c.requires.z_lt_d.3)

pub returns : goal.returns
returns c = (
  c.put_at.ensures ∙ part_in c.args.s c.args.z c.args.part.now
      c.args.weights.now c.requires.z_lt_d.0 c.requires.z_lt_d.1 c.requires.z_lt_d.2 _
      c.points_offset-point.ensures,
  c.copy_from.ensures ∙ ap
      (λ (n : ℕ). take n c.args.sums.now ++ drop n (take (length c.args.sums.now) c.args.held.now))
      c.sum_offset-from.ensures,
  ap (at c.copy_from.new.to)
      c.sum_offset-last.ensures,
)
