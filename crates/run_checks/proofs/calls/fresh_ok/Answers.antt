-- `run_checks::calls::fresh_ok`: check after check, one law for each return (shape_stops, lent_stops, scratch_stops, numbers_stop, fresh_fits).
use Rattle.std.proofs.lemmas.Result.{err_from_is_err_and}
use mathlib.Core.Path.{sym}
use Prim.Native.Nat.{ℕ}
use lib.Ieee.{Float}
use mathlib.Core.List.{List}
use lib.ListN.{length}
use Rattle.shape.specs.declared.Shape.{Shape}
use Rattle.stepform.specs.declared.Axis.{Axis}
use Rattle.stepform.specs.declared.Settings.{Settings}
use Rattle.runform.specs.Slices.{Slices, outputs}
use Rattle.runform.specs.Kept.{Inputs}
use Rattle.run_checks.proofs.Asks.{lent_says}
use Rattle.run_checks.proofs.Afresh.{shape_stops, lent_stops, scratch_stops, numbers_stop, fresh_fits}
use Rattle.run_checks.proofs.calls.fresh_ok.Goals as goal

abbrev given : Shape → List Axis → Settings → List Float → List Float → Inputs
given s xs set source weights = record { shape = s; axes = xs; set = set; source = source; weights = weights }

pub returns-in_err-check : goal.returns-in_err-check
returns-in_err-check c = let p = err_from_is_err_and c.from_residual.result c.from_residual.ensures.1 in rw (p.1, p.2)
    (shape_stops (given c.args.s c.args.xs c.args.set c.args.source.now c.args.weights.now) (outputs c.args.chain c.args.carries c.args.sums) c.args.scratch _ c.in_err-check.ensures)

pub returns-in_err-lent : goal.returns-in_err-lent
returns-in_err-lent c = let p = err_from_is_err_and c.from_residual-in_err-lent.result c.from_residual-in_err-lent.ensures.1 in rw (p.1, p.2)
    (lent_stops (given c.args.s c.args.xs c.args.set c.args.source.now c.args.weights.now) (outputs c.args.chain c.args.carries c.args.sums) c.args.scratch c.in_ok-check.ensures _ c.in_err-lent.ensures)

pub returns-then-scratch-scratch_of : goal.returns-then-scratch-scratch_of
returns-then-scratch-scratch_of c = scratch_stops (given c.args.s c.args.xs c.args.set c.args.source.now c.args.weights.now) (outputs c.args.chain c.args.carries c.args.sums) c.args.scratch
    c.in_ok-check.ensures c.in_ok-lent.ensures _ c.scratch_of.ensures c.if-scratch-scratch_of.true

pub numbers_made-requires-clause-s_in_bounds : goal.numbers_made-requires-clause-s_in_bounds
numbers_made-requires-clause-s_in_bounds c = let m : Slices ℕ = record { source = length c.args.source.now; weights = length c.args.weights.now; outputs = outputs c.args.chain c.args.carries c.args.sums } in
    let l = lent_says _ m (sym c.in_ok-lent.ensures) in (l.source, l.weights)

pub returns-in_err-numbers_made : goal.returns-in_err-numbers_made
returns-in_err-numbers_made c = let p = err_from_is_err_and c.from_residual-in_err-numbers_made.result c.from_residual-in_err-numbers_made.ensures.1 in rw (p.1, p.2)
    (numbers_stop (given c.args.s c.args.xs c.args.set c.args.source.now c.args.weights.now) (outputs c.args.chain c.args.carries c.args.sums) c.args.scratch
    c.in_ok-check.ensures c.in_ok-lent.ensures _ c.scratch_of.ensures c.if-scratch-scratch_of.false _ c.in_err-numbers_made.ensures)

pub returns : goal.returns
returns c = fresh_fits (given c.args.s c.args.xs c.args.set c.args.source.now c.args.weights.now) (outputs c.args.chain c.args.carries c.args.sums) c.args.scratch
    c.in_ok-check.ensures c.in_ok-lent.ensures _ c.scratch_of.ensures c.if-scratch-scratch_of.false c.in_ok-numbers_made.ensures _ c.reaches_ok.ensures
