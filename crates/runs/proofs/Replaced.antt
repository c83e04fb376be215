-- A replacement by the verdict of its checks: refused, all is as it was; else its end is that of its work. Assumes nothing.
use mathlib.Core.Path.{◌≡◌, refl, sym, ◌∙◌}
use Prim.Native.Nat.{ℕ, suc}
use lib.ListN.{length}
use mathlib.Core.List.{List, [], ◌∷◌}
use lib.Ieee.{Float}
use Rattle.answers.specs.declared.Refusal.{Refusal}
use Rattle.answers.specs.declared.Refusal.TheVariants.{Zone, Length, Number, Setting, Reach}
use Rattle.std.specs.Prelude.{Ok, Err}
use Rattle.answers.specs.Outcome.{Answer, Check, ◌then◌}
use Rattle.answers.proofs.Outcomes.{ok_err}
use Rattle.answers.proofs.Late.{Early, early_demand, early_then, early_each}
use Rattle.shape.proofs.Early.{early_shape}
use Rattle.stepform.specs.Zones.{rules}
use Rattle.runform.specs.Slices.{slice_count}
use Rattle.runform.specs.declared.Ran.{Ran}
use Rattle.runform.specs.Kept.{Kept, running, record_of, slices_of, lengths_for, lengths_of}
use Rattle.runform.specs.Checks.{lent_from, scratch_lent}
use Rattle.runform.specs.Requests.{Request, new_core, new_axis, new_weights, present, found_ok, found_numbers, shifts_ok, numbers_ok, replace_ok, redo, replace}
use Rattle.runform.specs.Call.{run_end, scratch_place, replace_by}
use Rattle.runs.proofs.Ends.{checks_stop, checks_pass}

-- ---- the checks refuse before any work
early_shifts : (k : Kept) (q : Request) → Early (shifts_ok rules (present k.inputs q) q)
early_shifts k (new_core z xs) = early_each Reach _ _ z (λ j. refl)
early_shifts k (new_axis z a) = early_each Reach _ _ z (λ j. refl)
early_shifts k (new_weights z ws) = record { first = λ q e. absurd (ok_err e) }

-- 5, of any slices
pub early_lent : (j : ℕ) (ns ms : List ℕ) → Early (lent_from j ns ms)
unfolding lent_from
early_lent j [] ms = record { first = λ q e. absurd (ok_err e) }
early_lent j (n ∷ ns) [] = record { first = λ q e. absurd (ok_err e) }
early_lent j (n ∷ ns) (m ∷ ms) = early_then _ _ (early_demand _ (Length j) refl) (early_lent (suc j) ns ms)

early_replace : (room : Check) → Early room → (k : Kept) (q : Request) → Early (replace_ok rules room k q)
unfolding replace_ok found_ok found_numbers numbers_ok
early_replace room h k q =
    let d = k.inputs.shape.d in
    early_then _ _
    (early_then _ _ (early_shape k.inputs.shape _)
    (early_then _ _ (early_demand _ Zone refl) (early_lent 0 (lengths_of k) (lengths_for k.inputs.shape))))
    (early_then _ _ (early_demand _ (Length slice_count) refl)
    (early_then _ _ h
    (early_then _ _
    (early_then _ _ (early_demand _ (Number 0) refl)
    (early_then _ _ (early_each Number _ d 0 (λ j. refl))
    (early_then _ _ (early_demand _ (Setting 0) refl) (early_each Setting _ d 0 (λ j. refl)))))
    (early_shifts k q))))

-- ---- v is the verdict on the checks
module _ (k : Kept) (q : Request) (scratch : List Float) (v : Check) (e : v ≡ replace_ok rules (scratch_lent k.inputs.shape (scratch_place q) (length scratch)) k q) where
  abbrev ok : Check
  ok = replace_ok rules (scratch_lent k.inputs.shape (scratch_place q) (length scratch)) k q

  abbrev work : Answer Kept
  work = redo rules q (running (present k.inputs q) k.stepped k.summed)

  called : replace_by rules k q scratch ≡ run_end k scratch (ok then work)
  unfolding replace_by replace
  called = refl

  -- all is as it was
  pub replace_stops : (r : Refusal) → v ≡ Err r → (a : Ran) → a ≡ record { verdict = Err r; run = record_of k }
      → record { result = a; slices = slices_of k; scratch = scratch } ≡ replace_by rules k q scratch
  unfolding scratch_lent
  replace_stops r h a f = checks_stop k scratch ok work v e (early_replace _ (early_demand _ (Length (scratch_place q)) refl) k q) r h a f ∙ sym called

  pub replace_goes : v ≡ Ok tt → run_end k scratch work ≡ replace_by rules k q scratch
  replace_goes h = checks_pass k scratch ok work v e h ∙ sym called
