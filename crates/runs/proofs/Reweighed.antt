-- The call for new weights: what its checks let the work ask, and its end. Assumes nothing.
use mathlib.Core.Path.{◌≡◌, refl, ap, ◌∙◌}
use Prim.Native.Nat.{ℕ}
use mathlib.Core.List.{List}
use lib.ListN.{length, replicate}
use lib.Ieee.{Float}
use Rattle.numbers.specs.Arithmetic.{zero64}
use Rattle.std.specs.Prelude.{Ok, Err}
use Rattle.answers.specs.Outcome.{Answer, bind, Check, ◌then◌}
use Rattle.answers.proofs.Checks.{verdict_passed}
use Rattle.lists.specs.Floats.{zeros}
use Rattle.lists.proofs.Tests.{eqb_is}
use Rattle.shape.specs.Shapes.{shape_ok, point_size}
use Rattle.stepform.specs.Zones.{rules}
use Rattle.runform.specs.declared.Run.{Run}
use Rattle.runform.specs.declared.Ran.{Ran}
use Rattle.runform.specs.Slices.{Slices, behind_part}
use Rattle.runform.specs.Kept.{Inputs, Summed, Kept, running, kept_of}
use Rattle.runform.specs.Work.{resum, sum_from}
use Rattle.runform.specs.Checks.{rank_ok, scratch_lent}
use Rattle.runform.specs.Requests.{new_weights, present, replace_ok, replace}
use Rattle.runform.specs.Call.{run_end, replace_by, replace_weights_call}
use Rattle.runform.proofs.Accepted.{checks_say}
use Rattle.runform.proofs.Untouched.{slices_are}
use Rattle.run_work.specs.Weights.{Lent, weights_end}
use Rattle.runs.proofs.Replaced.{replace_goes}

module _ (r : Run) (z : ℕ) (m : Slices (List Float)) (part scratch : List Float) (v : Check)
    (e : v ≡ replace_ok rules (scratch_lent r.shape behind_part (length scratch)) (kept_of r m) (new_weights z part)) (h : v ≡ Ok tt) where
  -- what the checks let the work ask
  pub weights_lent : (shape_ok r.shape (rank_ok r.shape r.bonds) ≡ Ok tt) × Lent r.shape z part m.weights m.outputs.chain m.outputs.sums
  weights_lent =
      let k = kept_of r m in
      let A = checks_say rules (scratch_lent r.shape behind_part (length scratch)) k (new_weights z part) (verdict_passed _ v e h) in
      let S = slices_are k A.slices in
      let part_long = eqb_is (length part) (point_size r.shape z) A.order.fits in
      (A.shape, record { zone = A.order.inside; part_long = part_long; weights_long = S.weights; chain_long = S.chain; sums_long = S.sums })

  -- u is scratch at the end
  pub weights_worked : (a : Ran) (x : Slices (List Float)) (u : List Float) (n : ℕ)
      → record { result = a; slices = x; scratch = zeros (length scratch) } ≡ weights_end r z m part scratch
      → u ≡ replicate n zero64 → n ≡ length scratch → record { result = a; slices = x; scratch = u } ≡ replace_weights_call r z m part scratch
  unfolding weights_end
  weights_worked a x u n f g i =
      ap (λ (l : List Float). record { result = a; slices = x; scratch = l }) (g ∙ ap zeros i) ∙ f ∙ replace_goes (kept_of r m) (new_weights z part) scratch v e h

-- ---- whatever it is lent, source, chain and carries are as they were
pub weights_leave : (r : Run) (z : ℕ) (m : Slices (List Float)) (part scratch : List Float) → let x = (replace_weights_call r z m part scratch).slices in
    (x.source ≡ m.source) × (x.outputs.chain ≡ m.outputs.chain) × (x.outputs.carries ≡ m.outputs.carries)
unfolding replace_by replace run_end sum_from
weights_leave r z m part scratch = go (replace_ok rules (scratch_lent r.shape behind_part (length scratch)) k (new_weights z part)) (resum rules i k.stepped k.summed z)
  where
    k : Kept
    k = kept_of r m

    i : Inputs
    i = present k.inputs (new_weights z part)

    go : (c : Check) (o : Answer Summed) → let x = (run_end k scratch (c then bind o (λ u. Ok (running i k.stepped u)))).slices in
        (x.source ≡ m.source) × (x.outputs.chain ≡ m.outputs.chain) × (x.outputs.carries ≡ m.outputs.carries)
    go (Err q) o = (refl, refl, refl)
    go (Ok _) (Err q) = (refl, refl, refl)
    go (Ok _) (Ok u) = (refl, refl, refl)
