-- DEMAND 3. Of the rules only `Sound` is used, which those of 000 and 001 meet (proofs/Rules.antt).
use mathlib.Core.Path.{◌≡◌, refl, sym, ap, ◌∙◌, subst}
use Prim.Native.Nat.{ℕ}
use mathlib.Core.List.{List, [], ◌∷◌}
use lib.ListN.{length}
use lib.Ieee.{Float}
use Rattle.answers.specs.declared.Refusal.TheVariants.{Length}
use Rattle.std.specs.Prelude.{Ok, Err}
use Rattle.answers.specs.Outcome.{Answer, Check, verdict_of}
use Rattle.answers.proofs.Checks.{demand_yes}
use Rattle.lists.proofs.Tests.{eqb_yes}
use Rattle.shape.specs.declared.Shape.{Shape}
use Rattle.shape.specs.Limits.{most_axes, scratch_for}
use Rattle.shape.specs.Shapes.{entries_of}
use Rattle.stepform.specs.declared.Axis.{Axis}
use Rattle.stepform.specs.declared.Settings.{Settings}
use Rattle.stepform.specs.Zones.{Rules, rules}
use Rattle.runform.specs.Slices.{Slices}
use Rattle.runform.specs.Kept.{Inputs, Kept, inputs_of, record_of, slices_of}
use Rattle.runform.specs.Checks.{scratch_lent, fresh_run}
use Rattle.runform.specs.Requests.{Request, new_core, new_axis, new_weights, present, InOrder, replace}
use Rattle.runform.specs.Call.{run_end, Room, room_ok, fresh_by, scratch_place, replace_by, fresh_call, replace_core_call, replace_axis_call, replace_weights_call}
use Rattle.runform.specs.Sequence.{kept_after, AsFresh, Slice, Asked, found, returned, Lends, rightly, wrongly, taken_up, end_of, kept_after_call, kept_after_all, present_after_all, AllLend}
use Rattle.runform.proofs.Sound.{Sound}
use Rattle.runform.proofs.Rules.{rules_sound}
use Rattle.runform.proofs.Accepted.{accepted}
use Rattle.runform.proofs.Lending.{returned_same, accepted_lengths}
use Rattle.runform.proofs.StaysFresh.{present_shape, first_fresh, answers_same, next_fresh}

-- ---- by any sound rules
module _ (R : Rules) (S : Sound R) where
  -- one call, lent the run's own slices or some of wrong lengths
  call_fresh : (i : Inputs) (k : Kept) → AsFresh R i k → (c : Asked) → Lends k c → AsFresh R (taken_up (end_of R k c).result.verdict i c.request) (kept_after_call R k c)
  unfolding replace_by run_end
  call_fresh i k F c (rightly e) =
      subst (λ (m : Slices Slice). let x = replace_by R (found k m) c.request c.scratch in AsFresh R (taken_up x.result.verdict i c.request) (returned k m (kept_after x))) (sym e)
      (next_fresh R S i k F c.request c.scratch)
  call_fresh i k F c (wrongly ne) = go (replace R room k' c.request) refl
    where
      k' : Kept
      k' = found k c.slices

      room : Check
      room = scratch_lent k.inputs.shape (scratch_place c.request) (length c.scratch)

      go : (o : Answer Kept) → replace R room k' c.request ≡ o → AsFresh R (taken_up (verdict_of o) i c.request) (returned k c.slices (kept_after (run_end k' c.scratch o)))
      go (Ok x) h = absurd (ne (accepted_lengths R room k' c.request (accepted R room k' x c.request h).0))
      go (Err r) h = subst (AsFresh R i) (sym (returned_same k c.slices)) F

  all_fresh : (i : Inputs) (k : Kept) → AsFresh R i k → (cs : List Asked) → AllLend R k cs → AsFresh R (present_after_all R i k cs) (kept_after_all R k cs)
  all_fresh i k F [] L = F
  all_fresh i k F (c ∷ cs) L = all_fresh (taken_up (end_of R k c).result.verdict i c.request) (kept_after_call R k c) (call_fresh i k F c L.0) cs L.1

  -- THE THEOREM. Start from an accepted fresh run on the inputs i, lent the slices m. Then make any replacements, as many as you like
  -- and in any order, each on the run that the last one left, with any part and any scratch, some refused, some lent slices of wrong lengths.
  -- The run is then, in its record and in its slices, bit for bit what a fresh run on the present inputs leaves: on i with every accepted part in.
  pub demand3 : (i : Inputs) (m : Room) → length i.axes ≡ most_axes → (fresh_by R i m).result.verdict ≡ Ok tt → (cs : List Asked)
      → let k = kept_after (fresh_by R i m) in AllLend R k cs → AsFresh R (present_after_all R i k cs) (kept_after_all R k cs)
  demand3 i m all e cs L = all_fresh i (kept_after (fresh_by R i m)) (first_fresh R i m all e) cs L

  -- On such a run a replacement whose zone number and lengths are in order is refused exactly when a fresh run with the new part in is,
  -- and with the same refusal.
  pub refused_same : (i : Inputs) (k : Kept) → AsFresh R i k → (q : Request) → InOrder i.shape q
      → (scratch : List Float) → length scratch ≡ scratch_for (entries_of i.shape) → (m : Room) → room_ok i.shape m ≡ Ok tt
      → (replace_by R k q scratch).result.verdict ≡ (fresh_by R (present i q) m).result.verdict
  unfolding replace_by run_end fresh_by scratch_lent
  refused_same i k F q O scratch long m lent =
      let room : scratch_lent k.inputs.shape (scratch_place q) (length scratch) ≡ Ok tt =
      ap (λ (j : Inputs). scratch_lent j.shape (scratch_place q) (length scratch)) F.inputs ∙ demand_yes _ (Length (scratch_place q)) (eqb_yes (length scratch) (scratch_for (entries_of i.shape)) long) in
      ap (λ (c : Check). verdict_of (replace R c k q)) room
      ∙ ap verdict_of (answers_same R S i k F q O)
      ∙ ap (λ (c : Check). verdict_of (fresh_run R c (present i q))) (sym (ap (λ (s : Shape). room_ok s m) (present_shape i q) ∙ lent))

-- ---- the public calls, by the rules of 000 and 001
-- each call of a sequence is a public call on the run's record and the slices that it is lent
module _ (k : Kept) (z : ℕ) (m : Slices Slice) (scratch : List Float) where
  abbrev lent : Slices (List Float)
  lent = slices_of (found k m)

  pub core_call : (part : List Float) → end_of rules k (record { request = new_core z part; slices = m; scratch = scratch })
      ≡ replace_core_call (record_of k) z lent part scratch
  core_call part = refl

  pub axis_call : (a : Axis) → end_of rules k (record { request = new_axis z a; slices = m; scratch = scratch })
      ≡ replace_axis_call (record_of k) z a lent scratch
  axis_call a = refl

  pub weights_call : (part : List Float) → end_of rules k (record { request = new_weights z part; slices = m; scratch = scratch })
      ≡ replace_weights_call (record_of k) z lent part scratch
  weights_call part = refl

-- after an accepted `fresh_call` and any replacements the run is as fresh on the present inputs
pub demand3_calls : (s : Shape) (axes : List Axis) (t : Settings) (m : Slices (List Float)) (scratch : List Float) → length axes ≡ most_axes
    → (fresh_call s axes t m scratch).result.verdict ≡ Ok tt → (cs : List Asked)
    → let i = inputs_of s axes t m in
    let k = kept_after (fresh_call s axes t m scratch) in
    AllLend rules k cs → AsFresh rules (present_after_all rules i k cs) (kept_after_all rules k cs)
demand3_calls s axes t m scratch all e cs L = demand3 rules rules_sound (inputs_of s axes t m) (record { outputs = m.outputs; scratch = scratch }) all e cs L
