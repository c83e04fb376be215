use mathlib.Core.Path.{refl}
use Rattle.std.proofs.lemmas.Result.{err_from_is_err_and}
use native.Mathlib.Omega.{arith}
use Rattle.steps.proofs.Evolves.{going_first, going_same, going_more, going_stops, going_ends, going_placed}
use Rattle.steps.proofs.steps_in.Goals as goal

pub loop-init : goal.loop-init
loop-init c = going_same _ _ _ _ _ _ _ _ _ (omega arith) (going_first _ _ _ _ _ _ _ c.no_bond-said.ensures refl c.requires.placed.inside c.requires.placed.lefts c.requires.placed.rights)

pub one_step-requires-clause-placed : goal.one_step-requires-clause-placed
one_step-requires-clause-placed c = going_placed _ _ _ _ _ _ _ _ c.loop.invariant (omega (arith, c.requires.placed.long, c.loop.auto.work))

pub returns-in_err-w : goal.returns-in_err-w
returns-in_err-w c =
    let p = err_from_is_err_and c.from_residual.result c.from_residual.ensures.1 in
    rw (p.1, p.2) (going_stops _ _ _ _ _ _ _ _ c.loop.invariant _ _ c.one_step.ensures (omega arith) _ c.in_err-w.was)

pub loop-preserved : goal.loop-preserved
loop-preserved c = going_same _ _ _ _ _ _ _ _ _ (omega arith)
    (going_more _ _ _ _ _ _ _ _ c.loop.invariant _ _ c.one_step.ensures (omega arith) _ c.in_ok-w.was _
    c.further-more.ensures)

pub returns : goal.returns
returns c = going_ends _ _ _ _ _ _ _ _ c.loop.invariant (omega arith)
