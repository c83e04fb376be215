use Prim.Native.Nat.{ℕ, ◌*◌, ◌^◌, ◌<◌}
use native.Mathlib.Omega.{arith}
use mathlib.Core.Path.{◌≡◌, ◌∙◌}
use lib.ListN.{length}
use borrow.Author.Rules.{rules}
use Rattle.lists.specs.Lists.{tab}
use Rattle.lists.proofs.Cells.{row_end, row_scaled}
use Rattle.lists.proofs.Turns.{turns}
use Rattle.lists.proofs.Over.{joins_more}
use Rattle.lists.proofs.Tables.{length_tab}
use Rattle.shift.specs.Starts.{entry_in}
use Rattle.shift.specs.Unrolled.{unrolled_of, block_of}
use Rattle.shift.proofs.Around.{at_least, block_fits, part_long, room_for, block_shifted}
use Rattle.shift.proofs.shift_blocks.Goals as goal

pub overflow_mul-h : goal.overflow_mul-h
overflow_mul-h c = let l : length c.args.t.now < 2 ^ 64 = search rules in
    record { fits = omega (arith, block_fits _ c.args.n c.args.rr _ c.requires.2) }

pub unroll-requires : goal.unroll-requires
unroll-requires c = (c.requires.5, part_long c.args.core.now c.loop-k.k c.args.rl (c.args.n * c.args.rr) c.loop-k-test.true c.requires.0, c.loop-k.invariant.0 ∙ c.requires.2)

pub offset_bounds-out-b : goal.offset_bounds-out-b
offset_bounds-out-b c = let l : length c.args.core.now * 8 < 2 ^ 63 = search rules in
    row_scaled c.loop-k.k c.args.rl (c.args.n * c.args.rr) (length c.args.core.now) c.loop-k-test.true (at_least _ _ c.requires.0) l

pub shift_block-requires : goal.shift_block-requires
shift_block-requires c = let h = c.args.n * c.args.rr in
    let long = part_long c.loop-k.out c.loop-k.k c.args.rl h c.loop-k-test.true (search turns) in
    let on : length c.unroll.new.d ≡ length c.args.t.now = omega (arith, c.t-1.given, c.loop-k.invariant.0) in
    let room = room_for c.args.ahead.now _ _ h (length c.args.t.now) long on (block_fits _ c.args.n c.args.rr _ c.requires.2) c.requires.3 in
    (room.0, room.1, (room_for c.args.behind.now _ _ h (length c.args.t.now) long on (block_fits _ c.args.n c.args.rr _ c.requires.2) c.requires.4).1)

pub loop-k-preserved : goal.loop-k-preserved
loop-k-preserved c = let h = c.args.n * c.args.rr in
    let long = part_long c.loop-k.out c.loop-k.k c.args.rl h c.loop-k-test.true (search turns) in (
      search turns,
      joins_more h
          (λ (j : ℕ). tab h (entry_in (unrolled_of c.args.boundary (block_of c.args.core.now h j) c.args.n c.args.rr) c.args.forward.now c.args.ahead.now c.args.backward.now c.args.behind.now))
          c.args.out.now (λ j. length_tab h _)
          c.loop-k.k _ _ c.loop-k.invariant.1 (row_end c.loop-k.k c.args.rl h (length c.args.out.now) c.loop-k-test.true (at_least _ _ c.requires.1))
          (block_shifted c.args.boundary c.args.core.now _ _ c.loop-k.k c.args.n c.args.rr _ c.args.forward.now c.args.backward.now c.args.ahead.now c.args.behind.now
          c.unroll.ensures c.shift_block.ensures long),
    )
