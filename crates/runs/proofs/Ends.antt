-- The end of a run's call: by the verdict of its checks, and by what its work came to. Assumes nothing.
use mathlib.Core.Path.{◌≡◌, sym, ap, ◌∙◌}
use mathlib.Core.Bool.{Bool}
use mathlib.Core.List.{List}
use lib.ListN.{length}
use lib.Ieee.{Float}
use Rattle.answers.specs.declared.Refusal.{Refusal}
use Rattle.std.specs.Prelude.{Ok, Err}
use Rattle.answers.specs.Outcome.{Answer, Check, ◌then◌}
use Rattle.answers.specs.Table.{Late}
use Rattle.answers.proofs.Checks.{verdict_passed, verdict_refused}
use Rattle.answers.proofs.Late.{Early}
use Rattle.lists.specs.Lists.{pick}
use Rattle.lists.specs.Floats.{zeros}
use Rattle.cutform.specs.Call.{scratch_after}
use Rattle.runform.specs.declared.Run.{Run}
use Rattle.runform.specs.declared.Ran.{Ran}
use Rattle.runform.specs.Slices.{Outputs}
use Rattle.runform.specs.Kept.{Kept, record_of, slices_of}
use Rattle.runform.specs.Call.{RunEnd, run_end}

abbrev end_at : Ran → Kept → List Float → RunEnd
end_at a k u = record { result = a; slices = slices_of k; scratch = u }

-- ---- v is the verdict on the checks, which come before any work
module _ (k : Kept) (scratch : List Float) (ok : Check) (work : Answer Kept) (v : Check) (e : v ≡ ok) where
  -- refused, all is as it was
  pub checks_stop : Early ok → (r : Refusal) → v ≡ Err r → (a : Ran) → a ≡ record { verdict = Err r; run = record_of k } → end_at a k scratch ≡ run_end k scratch (ok then work)
  unfolding run_end scratch_after pick
  checks_stop early r h a f =
      let c = verdict_refused ok v r e h in
      ap (λ (x : Ran). end_at x k scratch) f
      ∙ sym
      (ap (λ (y : Check). run_end k scratch (y then work)) c
      ∙ ap (λ (y : Bool). end_at (record { verdict = Err r; run = record_of k }) k (pick y scratch (zeros (length scratch)))) (early.first r c))

  pub checks_pass : v ≡ Ok tt → run_end k scratch work ≡ run_end k scratch (ok then work)
  checks_pass h = ap (λ (c : Check). run_end k scratch (c then work)) (sym (verdict_passed ok v e h))

-- ---- o is what the work came to, and u is scratch then
module _ (k : Kept) (scratch u : List Float) (e : u ≡ zeros (length scratch)) (o : Answer Kept) where
  pub end_refused : (q : Refusal) → o ≡ Err q → Late o → end_at (record { verdict = Err q; run = record_of k }) k u ≡ run_end k scratch o
  unfolding run_end scratch_after pick
  end_refused q f l =
      ap (end_at (record { verdict = Err q; run = record_of k }) k) e
      ∙ ap (λ (b : Bool). end_at (record { verdict = Err q; run = record_of k }) k (pick b scratch (zeros (length scratch)))) (sym (l q f))
      ∙ ap (run_end k scratch) (sym f)

  pub end_done : (k' : Kept) → o ≡ Ok k' → end_at (record { verdict = Ok tt; run = record_of k' }) k' u ≡ run_end k scratch o
  unfolding run_end scratch_after
  end_done k' f = ap (end_at (record { verdict = Ok tt; run = record_of k' }) k') e ∙ ap (run_end k scratch) (sym f)

pub ran_is : (a : Ran) (v : Check) (r : Run) → a.verdict ≡ v → a.run ≡ r → a ≡ record { verdict = v; run = r }
ran_is a v r e f = ap (λ (x : Check). record { verdict = x; run = a.run }) e ∙ ap (λ (x : Run). record { verdict = v; run = x }) f

-- an end by its parts
pub end_same : {a a' : Ran} {o o' : Outputs (List Float)} (source weights u : List Float) → a ≡ a' → o ≡ o'
    → ◌≡◌ {A = RunEnd} (record { result = a; slices = record { source = source; weights = weights; outputs = o }; scratch = u })
    (record { result = a'; slices = record { source = source; weights = weights; outputs = o' }; scratch = u })
end_same source weights u p q = cc
