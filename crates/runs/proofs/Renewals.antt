-- The ends of a new core and of a new axis record, by what the work from their zone on came to. Assumes nothing.
use mathlib.Core.Path.{◌≡◌, refl, ap, ◌∙◌, subst}
use Prim.Native.Nat.{ℕ}
use mathlib.Core.List.{List}
use lib.ListN.{length}
use lib.Ieee.{Float}
use Rattle.answers.specs.declared.Refusal.{Refusal}
use Rattle.std.specs.Prelude.{Ok, Err}
use Rattle.answers.specs.Outcome.{Answer, answered, Check}
use Rattle.lists.specs.Slots.{put}
use Rattle.lists.specs.Floats.{zeros}
use Rattle.shape.specs.Shapes.{core_size}
use Rattle.stepform.specs.declared.Axis.{Axis}
use Rattle.stepform.specs.Zones.{rules}
use Rattle.runform.specs.declared.Run.{Run}
use Rattle.runform.specs.declared.Ran.{Ran}
use Rattle.runform.specs.Slices.{Outputs, Slices, slice_count, behind_part}
use Rattle.runform.specs.Kept.{Kept, kept_of}
use Rattle.runform.specs.Work.{work_from}
use Rattle.runform.specs.Requests.{new_core, new_axis, replace_ok}
use Rattle.runform.specs.Call.{replace_core_call, replace_axis_call}
use Rattle.runform.specs.Checks.{scratch_lent}
use Rattle.runform.proofs.Late.{late_work}
use Rattle.run_work.specs.Renewed.{SourcesFrom, Renewed}
use Rattle.runs.specs.Ended.{axis_run}
use Rattle.runs.proofs.Ends.{ran_is, end_same, end_refused, end_done}
use Rattle.runs.proofs.Replaced.{replace_goes}

-- ---- a run r that is made anew from zone z on, with the source l
module _ (r : Run) (z : ℕ) (weights : List Float) (m : Outputs (List Float)) (work : List Float)
    (a : Ran) (m' : Outputs (List Float)) (R : Renewed r z weights m work a m') (l : List Float) (S : SourcesFrom r.shape z l work) where
  abbrev whole : Answer Kept
  whole = work_from rules (kept_of r (record { source = l; weights = weights; outputs = m })) z

  abbrev made : Kept
  made = kept_of a.run (record { source = l; weights = weights; outputs = m' })

  pub whole_refused : (q : Refusal) → a.verdict ≡ Err q → whole ≡ Err q
  unfolding answered
  whole_refused q f = R.work l S ∙ ap (λ (v : Check). answered v made) f

  pub whole_done : a.verdict ≡ Ok tt → whole ≡ Ok made
  unfolding answered
  whole_done f = R.work l S ∙ ap (λ (v : Check). answered v made) f

-- ---- a new core
module _ (r : Run) (z : ℕ) (m : Slices (List Float)) (part scratch : List Float) (v : Check)
    (e : v ≡ replace_ok rules (scratch_lent r.shape behind_part (length scratch)) (kept_of r m) (new_core z part)) (h : v ≡ Ok tt)
    (work : List Float) (a : Ran) (m' : Outputs (List Float)) (R : Renewed r z m.weights m.outputs work a m')
    (S : SourcesFrom r.shape z (put (core_size r.shape) z part m.source) work)
    (u : List Float) (c : u ≡ zeros (length scratch)) where
  abbrev k : Kept
  k = kept_of r m

  abbrev anew : List Float
  anew = put (core_size r.shape) z part m.source

  abbrev again : Answer Kept
  again = work_from rules (kept_of r (record { source = anew; weights = m.weights; outputs = m.outputs })) z

  pub core_refused : (q : Refusal) → a.verdict ≡ Err q
      → record { result = a; slices = record { source = m.source; weights = m.weights; outputs = m' }; scratch = u } ≡ replace_core_call r z m part scratch
  core_refused q f =
      let L = R.left q f in
      end_same m.source m.weights u (ran_is a (Err q) r f L.0) L.1
      ∙ end_refused k scratch u c again q (whole_refused r z m.weights m.outputs work a m' R anew S q f) (late_work _ z)
      ∙ replace_goes k (new_core z part) scratch v e h

  pub core_ends : a.verdict ≡ Ok tt → (l : List Float) → l ≡ put (core_size r.shape) z part m.source
      → record { result = a; slices = record { source = l; weights = m.weights; outputs = m' }; scratch = u } ≡ replace_core_call r z m part scratch
  core_ends f l g =
      ap (λ (x : List Float). record { result = a; slices = record { source = x; weights = m.weights; outputs = m' }; scratch = u }) g
      ∙ end_same anew m.weights u (ran_is a (Ok tt) a.run f refl) refl
      ∙ end_done k scratch u c again (kept_of a.run (record { source = anew; weights = m.weights; outputs = m' })) (whole_done r z m.weights m.outputs work a m' R anew S f)
      ∙ replace_goes k (new_core z part) scratch v e h

-- ---- a new axis record
module _ (r : Run) (z : ℕ) (x : Axis) (m : Slices (List Float)) (scratch : List Float) (v : Check)
    (e : v ≡ replace_ok rules (scratch_lent r.shape slice_count (length scratch)) (kept_of r m) (new_axis z x)) (h : v ≡ Ok tt)
    (y : Run) (i : y ≡ axis_run r z x)
    (work : List Float) (a : Ran) (m' : Outputs (List Float)) (R : Renewed y z m.weights m.outputs work a m') (S : SourcesFrom r.shape z m.source work)
    (u : List Float) (c : u ≡ zeros (length scratch)) where
  abbrev k2 : Kept
  k2 = kept_of r m

  abbrev y' : Run
  y' = axis_run r z x

  abbrev over : Answer Kept
  over = work_from rules (kept_of y' m) z

  R' : Renewed (axis_run r z x) z m.weights m.outputs work a m'
  R' = subst (λ (t : Run). Renewed t z m.weights m.outputs work a m') i R

  pub axis_refused : (q : Refusal) → a.verdict ≡ Err q → (b : Ran) → b ≡ record { verdict = Err q; run = r }
      → record { result = b; slices = record { source = m.source; weights = m.weights; outputs = m' }; scratch = u } ≡ replace_axis_call r z x m scratch
  axis_refused q f b g =
      end_same m.source m.weights u g (R.left q f).1
      ∙ end_refused k2 scratch u c over q (whole_refused y' z m.weights m.outputs work a m' R' m.source S q f) (late_work _ z)
      ∙ replace_goes k2 (new_axis z x) scratch v e h

  pub axis_ends : a.verdict ≡ Ok tt → record { result = a; slices = record { source = m.source; weights = m.weights; outputs = m' }; scratch = u } ≡ replace_axis_call r z x m scratch
  axis_ends f =
      end_same m.source m.weights u (ran_is a (Ok tt) a.run f refl) refl
      ∙ end_done k2 scratch u c over (kept_of a.run (record { source = m.source; weights = m.weights; outputs = m' })) (whole_done y' z m.weights m.outputs work a m' R' m.source S f)
      ∙ replace_goes k2 (new_axis z x) scratch v e h
