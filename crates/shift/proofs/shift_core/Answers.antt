-- `shift::shift_core`: the blocks shifted by these weights and starts are the shifted core, although nothing wraps in them (blocks_are of Around.antt).
use mathlib.Core.Path.{ap, ◌∙◌}
use Prim.Native.Nat.{ℕ, ◌+◌, ◌*◌, ◌^◌, ◌<◌}
use native.Mathlib.Nat.{mul_assoc}
use native.Mathlib.Omega.{arith}
use lib.ListN.{length}
use lib.Seq.{length-take-le}
use borrow.Author.Rules.{rules}
use Rattle.lists.proofs.Parts.{parts}
use Rattle.shift.proofs.Starts.{starts_room}
use Rattle.shift.proofs.Unrolled.{period_some, period_few, written_fits, period_fits}
use Rattle.shift.proofs.Around.{blocks_are}
use Rattle.shift.proofs.Backward.{reach_neg}
use Rattle.shift.proofs.shift_core.Goals as goal

pub starts_of-ahead-requires : goal.starts_of-ahead-requires
starts_of-ahead-requires c = let l : length c.args.block.now < 2 ^ 64 = search rules in (
  period_some _ _ _ c.period-period.ensures c.requires.0.some,
  period_few _ _ _ c.period-period.ensures c.requires.0.few,
  period_fits _ _ _ c.period-period.ensures c.args.rr (length c.args.block.now) c.requires.0.room l,
  c.requires.1,
)

pub starts_of-behind-requires : goal.starts_of-behind-requires
starts_of-behind-requires c = let l : length c.args.block.now < 2 ^ 64 = search rules in (
  period_some _ _ _ c.period-period.ensures c.requires.0.some,
  period_few _ _ _ c.period-period.ensures c.requires.0.few,
  period_fits _ _ _ c.period-period.ensures c.args.rr (length c.args.block.now) c.requires.0.room l,
  reach_neg _ c.requires.1,
)

pub overflow_add-room : goal.overflow_add-room
overflow_add-room c = record { fits = omega (arith, period_few _ _ _ c.period-period.ensures c.requires.0.few, c.requires.0.few) }

pub overflow_mul-room : goal.overflow_mul-room
overflow_mul-room c = let l : length c.args.block.now < 2 ^ 64 = search rules in
    record { fits = omega (arith, written_fits _ _ _ c.period-period.ensures c.args.rr (length c.args.block.now) c.requires.0.room) }

pub slice_bounds-shift_blocks-end : goal.slice_bounds-shift_blocks-end
slice_bounds-shift_blocks-end c = written_fits _ _ _ c.period-period.ensures c.args.rr (length c.args.block.now) c.requires.0.room

pub slice_bounds-shift_blocks-end-2 : goal.slice_bounds-shift_blocks-end-2
slice_bounds-shift_blocks-end-2 c = search (rules, parts, written_fits)

pub shift_blocks-requires : goal.shift_blocks-requires
shift_blocks-requires c = let same = mul_assoc c.args.rl c.args.n c.args.rr in
    let long = length-take-le ((c.period-period.result + c.args.n) * c.args.rr) c.args.block.now (written_fits _ _ _ c.period-period.ensures c.args.rr (length c.args.block.now) c.requires.0.room) in
    let some = period_some _ _ _ c.period-period.ensures c.requires.0.some in (
      c.requires.0.whole ∙ same,
      c.requires.0.long ∙ same,
      long ∙ ap (λ (k : ℕ). (k + c.args.n) * c.args.rr) c.period-period.ensures,
      rw (c.starts_of-ahead.ensures, long) (starts_room _ c.args.n c.args.rr _ some),
      rw (c.starts_of-behind.ensures, long) (starts_room _ c.args.n c.args.rr _ some),
      c.requires.0.some,
    )

pub returns : goal.returns
returns c = c.shift_blocks.ensures
    ∙ rw (c.weights_of-forward.ensures, c.weights_of-backward.ensures, c.starts_of-ahead.ensures, c.starts_of-behind.ensures, c.period-period.ensures)
    (blocks_are c.args.boundary c.args.core.now c.args.rl c.args.n c.args.rr c.args.ratio (c.requires.0.whole ∙ mul_assoc c.args.rl c.args.n c.args.rr))
