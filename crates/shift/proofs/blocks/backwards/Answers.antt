use Prim.Native.Nat.{ℕ, suc, ◌+◌, ◌*◌, ◌-◌}
use native.Mathlib.Omega.{arith}
use mathlib.Core.Path.{◌∙◌}
use lib.ListN.{length}
use Rattle.lists.specs.Lists.{tab}
use Rattle.lists.specs.Floats.{at}
use Rattle.lists.proofs.Cells.{row_end}
use Rattle.lists.proofs.Turns.{turns}
use Rattle.lists.proofs.Over.{joins_more}
use Rattle.lists.proofs.Tables.{length_tab}
use Rattle.shift.proofs.Around.{at_least}
use Rattle.shift.proofs.Unrolled.{even_parts, row_back}
use Rattle.shift.proofs.blocks.backwards.Goals as goal

pub overflow_sub-from : goal.overflow_sub-from
overflow_sub-from c = row_end c.loop-q.q c.args.n c.args.rr (length c.args.s.now) c.loop-q-test.true (at_least _ _ c.requires.0)

pub overflow_sub-stop : goal.overflow_sub-stop
overflow_sub-stop c = omega (arith, (row_end c.loop-q.q c.args.n c.args.rr (length c.args.s.now) c.loop-q-test.true (at_least _ _ c.requires.0)))

pub copy-requires : goal.copy-requires
copy-requires c = let e = row_end c.loop-q.q c.args.n c.args.rr (length c.args.s.now) c.loop-q-test.true (at_least _ _ c.requires.0) in
    let f = row_end c.loop-q.q c.args.n c.args.rr (length c.loop-q.d) c.loop-q-test.true (at_least _ _ (search turns)) in
    search (turns, even_parts, e, f)

pub loop-q-preserved : goal.loop-q-preserved
loop-q-preserved c =
    joins_more c.args.rr (λ (q : ℕ). tab c.args.rr (λ (x : ℕ). at c.args.s.now ((c.args.n - suc q) * c.args.rr + x))) c.args.d.now (λ q. length_tab c.args.rr _)
    c.loop-q.q _ _ c.loop-q.invariant (row_end c.loop-q.q c.args.n c.args.rr (length c.args.d.now) c.loop-q-test.true (at_least _ _ c.requires.1))
    (c.copy.ensures ∙ row_back c.args.s.now c.args.n c.args.rr c.loop-q.q c.requires.0 c.loop-q-test.true)
