-- What is kept up from call to call: the run is what a fresh run on the present inputs leaves. Of the rules only `Sound` is used.
use mathlib.Core.Path.{◌≡◌, refl, sym, ap, ◌∙◌, subst}
use Prim.Native.Nat.{ℕ}
use native.Mathlib.Omega.{arith}
use mathlib.Core.List.{List}
use lib.ListN.{length, length-set, length-replicate}
use lib.Ieee.{Float}
use Rattle.numbers.specs.Arithmetic.{zero64}
use Rattle.answers.specs.declared.Refusal.TheVariants.{Length}
use Rattle.std.specs.Prelude.{Ok, Err}
use Rattle.answers.specs.Outcome.{Answer, Check, verdict_of}
use Rattle.answers.proofs.Outcomes.{passed_ok}
use Rattle.answers.proofs.Checks.{demand_yes, then_is, then_skip}
use Rattle.lists.specs.Floats.{zeros}
use Rattle.lists.proofs.Tests.{eqb_yes}
use Rattle.shape.specs.declared.Shape.{Shape}
use Rattle.shape.specs.Limits.{most_axes, scratch_for}
use Rattle.shape.specs.Shapes.{entries_of}
use Rattle.cutform.specs.Call.{scratch_after}
use Rattle.stepform.specs.Zones.{Rules}
use Rattle.runform.specs.Slices.{each_output, slice_count}
use Rattle.runform.specs.Kept.{Inputs, Kept, all_carries, all_sums, room_for, bare, blank}
use Rattle.runform.specs.Work.{work_from}
use Rattle.runform.specs.Checks.{scratch_lent, fresh_ok, fresh_run}
use Rattle.runform.specs.Requests.{Request, new_core, new_axis, new_weights, present, InOrder, replace}
use Rattle.runform.specs.Call.{RunEnd, run_end, Room, room_lent, room_ok, fresh_by, scratch_place, replace_by}
use Rattle.runform.specs.Sequence.{kept_after, AsFresh, taken_up}
use Rattle.runform.proofs.Sound.{Sound}
use Rattle.runform.proofs.InRow.{lent_passes}
use Rattle.runform.proofs.Trace.{passed, traced}
use Rattle.runform.proofs.Held.{sizes}
use Rattle.runform.proofs.OneRequest.{one_request}
use Rattle.runform.proofs.Accepted.{accepted}

-- the axis records stay as many
pub present_axes : (i : Inputs) (q : Request) → length (present i q).axes ≡ length i.axes
present_axes i (new_core z xs) = refl
present_axes i (new_axis z a) = length-set i.axes z a
present_axes i (new_weights z ws) = refl

pub present_shape : (i : Inputs) (q : Request) → (present i q).shape ≡ i.shape
present_shape i (new_core z xs) = refl
present_shape i (new_axis z a) = refl
present_shape i (new_weights z ws) = refl

-- slices of the right lengths
abbrev some_room : Shape → Room
some_room s = record { outputs = each_output zeros (room_for s); scratch = zeros (scratch_for (entries_of s)) }

room_there : (s : Shape) → room_ok s (some_room s) ≡ Ok tt
unfolding room_lent scratch_lent
room_there s =
    let long : (n : ℕ) → length (zeros n) ≡ n = λ n. length-replicate n zero64 in
    then_skip _ _ _ (lent_passes 2 _ _ (cc (long (entries_of s), long (all_carries s), long (all_sums s))))
    (demand_yes _ (Length slice_count) (eqb_yes _ _ (long (scratch_for (entries_of s)))))

module _ (R : Rules) where
  -- ---- an accepted fresh run had its room, and holds its inputs
  fresh_room : (room : Check) (i : Inputs) (k : Kept) → fresh_run R room i ≡ Ok k → room ≡ Ok tt
  unfolding fresh_run
  fresh_room room i k e = (passed R room i (then_is (fresh_ok R room i) (work_from R (blank i) 0) k e).0).1

  fresh_inputs : (i : Inputs) (k : Kept) → fresh_run R (Ok tt) i ≡ Ok k → k.inputs ≡ i
  fresh_inputs i k e = ap (λ (x : Kept). x.inputs) (sym (traced R i k e).1)

  -- ---- `AsFresh`, said of the run that the work leaves
  as_fresh : (i : Inputs) (k : Kept) → length i.axes ≡ most_axes → fresh_run R (Ok tt) i ≡ Ok k → AsFresh R i k
  unfolding fresh_by run_end scratch_after
  as_fresh i k all ran = record {
    array = all;
    inputs = fresh_inputs i k ran;
    end = λ m room. ap (λ (c : Check). run_end (bare i m.outputs) m.scratch (fresh_run R c i)) room ∙ ap (run_end (bare i m.outputs) m.scratch) ran;
  }

  fits_ran : (i : Inputs) (m : Room) → (fresh_by R i m).result.verdict ≡ Ok tt → fresh_run R (Ok tt) i ≡ Ok (kept_after (fresh_by R i m))
  unfolding fresh_by run_end
  fits_ran i m e =
      let A = passed_ok (fresh_run R (room_ok i.shape m) i) e in
      let k = A.0 in
      let ran = ap (λ (c : Check). fresh_run R c i) (sym (fresh_room (room_ok i.shape m) i k A.1)) ∙ A.1 in
      ran ∙ ap (λ (o : Answer Kept). Ok (kept_after (run_end (bare i m.outputs) m.scratch o))) (sym A.1)

  pub ran_fresh : (i : Inputs) (k : Kept) → AsFresh R i k → fresh_run R (Ok tt) i ≡ Ok k
  ran_fresh i k F =
      let m = some_room i.shape in
      let e = F.end m (room_there i.shape) in
      fits_ran i m (ap (λ (x : RunEnd). x.result.verdict) e) ∙ ap (λ (x : RunEnd). Ok (kept_after x)) e

  -- an accepted fresh run is as fresh
  pub first_fresh : (i : Inputs) (m : Room) → length i.axes ≡ most_axes → (fresh_by R i m).result.verdict ≡ Ok tt → AsFresh R i (kept_after (fresh_by R i m))
  first_fresh i m all e = as_fresh i (kept_after (fresh_by R i m)) all (fits_ran i m e)

  module _ (S : Sound R) (i : Inputs) (k : Kept) (F : AsFresh R i k) where
    -- one replacement answers as a fresh run with the new part in
    pub answers_same : (q : Request) → InOrder i.shape q → replace R (Ok tt) k q ≡ fresh_run R (Ok tt) (present i q)
    answers_same q O =
        let T = traced R i k (ran_fresh i k F) in
        let all = F.array in
        let most = (sizes R S i T.0.step).most in
        ap (λ (x : Kept). replace R (Ok tt) x q) (sym T.1) ∙ one_request R S i T.0 (omega arith) q O

    -- and the run is as fresh again
    pub next_fresh : (q : Request) (scratch : List Float) → AsFresh R (taken_up (replace_by R k q scratch).result.verdict i q) (kept_after (replace_by R k q scratch))
    unfolding replace_by run_end
    next_fresh q scratch = go (replace R room k q) refl
      where
        room : Check
        room = scratch_lent k.inputs.shape (scratch_place q) (length scratch)

        go : (o : Answer Kept) → replace R room k q ≡ o → AsFresh R (taken_up (verdict_of o) i q) (kept_after (run_end k scratch o))
        go (Ok k') e =
            let A = (accepted R room k k' q e).0 in
            let O : InOrder i.shape q = subst (λ (x : Inputs). InOrder x.shape q) F.inputs A.order in
            as_fresh (present i q) k' (present_axes i q ∙ F.array) (sym (answers_same q O) ∙ ap (λ (x : Check). replace R x k q) (sym A.scratch) ∙ e)
        go (Err r) e = F
