-- `passes::careful::rotate`: a pair that is skipped stays (rotate_skip); any other is turned by its slope, tangent and cosine (rotate_go).
use Rattle.std.proofs.lemmas.Result.{err_from_is_err_and}
use Rattle.answers.specs.Outcome.{staged, outcome_of}
use Rattle.passes.proofs.Rotated.{rotate_skip, rotate_go}
use Rattle.passes.proofs.careful.rotate.Goals as goal

pub returns-then-skipped : goal.returns-then-skipped
unfolding outcome_of
returns-then-skipped c = (rotate_skip _ _ _ _ _ _ _ _ c.requires.0.kept c.requires.1 c.requires.2 _ c.dot-alpha.ensures _ c.skipped.ensures c.if-skipped.true, c.requires.0.kept)

pub returns-in_err-apply_jacobi_rotation : goal.returns-in_err-apply_jacobi_rotation
unfolding staged outcome_of
returns-in_err-apply_jacobi_rotation c =
    let p = err_from_is_err_and c.from_residual.result c.from_residual.ensures.1 in
    rw (p.1, p.2) (
      rotate_go _ _ _ _ _ _ _ _ c.requires.0.kept c.requires.1 c.requires.2 _ c.dot-alpha.ensures _ c.skipped.ensures c.if-skipped.false _ _ _
          c.slope.ensures c.tangent-t.ensures c.cosine-c.ensures _ c.in_err-apply_jacobi_rotation.ensures.0,
      c.in_err-apply_jacobi_rotation.ensures.1,
    )

pub returns : goal.returns
unfolding staged outcome_of
returns c = (
  rotate_go _ _ _ _ _ _ _ _ c.requires.0.kept c.requires.1 c.requires.2 _ c.dot-alpha.ensures _ c.skipped.ensures c.if-skipped.false _ _ _
      c.slope.ensures c.tangent-t.ensures c.cosine-c.ensures _ c.in_ok-apply_jacobi_rotation.ensures.0,
  c.in_ok-apply_jacobi_rotation.ensures.1,
)
