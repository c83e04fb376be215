-- What stands in unused room is nobody's: of two runs that agree in used room a replacement refuses both alike, or accepts both and leaves runs that agree again. On any runs, also ones that others wrote to; assumes nothing of the rules.
use mathlib.Core.Path.{◌≡◌, refl, sym, ap, ◌∙◌, subst}
use Prim.Native.Nat.{ℕ, zero, suc, ◌+◌, ◌-◌, ◌≤◌, ◌<◌}
use native.Mathlib.Nat.{add-zero, le_refl}
use native.Mathlib.Omega.{arith}
use mathlib.Core.List.{List, map}
use lib.ListN.{length, take, length-map}
use lib.Ieee.{Float, nan}
use Rattle.numbers.specs.Arithmetic.{zero64}
use Rattle.answers.specs.Outcome.{Answer, bind, Check, ◌then◌}
use Rattle.lists.specs.Slots.{offset, slot}
use Rattle.lists.specs.Walks.{walk}
use Rattle.lists.specs.Floats.{at}
use Rattle.lists.proofs.Tests.{below_or_not}
use Rattle.lists.proofs.Tables.{listed_length, listed_same}
use Rattle.lists.proofs.Slots.{offset_mono, slot_before, write_before, write_alike}
use Rattle.lists.proofs.Walks.{walk_length}
use Rattle.lists.proofs.Written.{get_or_slot_lem, written_from}
use Rattle.shape.specs.declared.Shape.{Shape}
use Rattle.shape.specs.Shapes.{right_of}
use Rattle.shape.specs.Cores.{Core, points_at}
use Rattle.shape.proofs.Shaped.{Shaped, shaped}
use Rattle.cutform.specs.Rounding.{Carry, Cut}
use Rattle.stepform.specs.Zones.{Rules}
use Rattle.stepform.specs.Steps.{step_from}
use Rattle.stepform.proofs.Restart.{step_length}
use Rattle.sumform.specs.Sums.{sum_size}
use Rattle.runform.specs.Kept.{Inputs, Summed, Kept, running, all_sums, zone_at, zones_from, right_rank, carry_at, kept_sums, sums_at, weighed_at, weighed_from}
use Rattle.cutform.specs.Keeping.{Stepped, rank_at, keep_step}
use Rattle.runform.specs.Work.{keep_sums, sum_zone, restep, resum, sum_from, work_from}
use Rattle.runform.proofs.Before.{Roomy, right_before}
use Rattle.std.specs.Prelude.{Err, Ok}
use Rattle.runform.specs.Checks.{rank_ok, scratch_lent}
use Rattle.runform.specs.Requests.{Request, new_core, new_axis, new_weights, present, InOrder, replace_ok, redo, replace}
use Rattle.runform.specs.Call.{RunEnd, scratch_place, run_end, replace_by}
use Rattle.runform.specs.Left.{Arrays}
use Rattle.runform.specs.Sequence.{kept_after}
use Rattle.runform.proofs.Accepted.{checks_say}
use Rattle.runform.proofs.Untouched.{slices_are, roomy}
use Rattle.runform.proofs.AlikeRuns.{AlikeSteps, Alike, AnswersAlike, bond_same, checks_same, steps_alike}

-- the sums
module _ (i : Inputs) (shp : Shaped i.shape) (t t' : Stepped) (steps : AlikeSteps i.shape t t') (u u' : Summed)
    (room : all_sums i.shape ≤ length u.sums) (room' : all_sums i.shape ≤ length u'.sums) (long : length u.sums ≡ length u'.sums)
    (z : ℕ) (inside : z < i.shape.d) (before : (k : ℕ) → k < z → kept_sums i.shape t u k ≡ kept_sums i.shape t' u' k) where
  abbrev s : Shape
  s = i.shape

  abbrev first : List Float × Unit {0} → List Float
  first r = r.0

  right_same : (k : ℕ) → k < i.shape.d → right_rank s t k ≡ right_rank s t' k
  right_same k lt = bond_same s k (rank_at t k) (rank_at t' k) (right_of s k) (steps.ranks k)

  module _ (e : List (List Float × Unit {0})) (whole : z + length e ≡ i.shape.d) where
    mapped_sums : z + length (map first e) ≡ i.shape.d
    mapped_sums = ap (λ (x : ℕ). z + x) (length-map e first) ∙ whole

    -- slot k, before z and from z on
    slot_kept : (v : Summed) → all_sums i.shape ≤ length v.sums → (k : ℕ) → k < z → slot (sum_size s) k (keep_sums s z e v).sums ≡ slot (sum_size s) k v.sums
    unfolding keep_sums
    slot_kept v r k lt =
        let m = offset_mono (sum_size s) z s.d (omega arith) in
        slot_before (sum_size s) k z (keep_sums s z e v).sums v.sums lt (write_before (sum_size s) zero64 s.d z (map first e) v.sums (omega arith))

    slot_new : (k : ℕ) → z ≤ k → k < i.shape.d → slot (sum_size s) k (keep_sums s z e u).sums ≡ slot (sum_size s) k (keep_sums s z e u').sums
    unfolding keep_sums
    slot_new k ge lt = write_alike (sum_size s) zero64 s.d z (map first e) mapped_sums u.sums u'.sums room room' k ge lt

    sums_alike : (k : ℕ) → k < i.shape.d → kept_sums s t (keep_sums s z e u) k ≡ kept_sums s t' (keep_sums s z e u') k
    sums_alike k lt =
        below_or_not k z
        (λ b. ap (take (right_rank s t k)) (slot_kept u room k b) ∙ before k b ∙ sym (ap (take (right_rank s t' k)) (slot_kept u' room' k b)))
        (λ ge. ap (λ (n : ℕ). take n (slot (sum_size s) k (keep_sums s z e u).sums)) (right_same k lt) ∙ ap (take (right_rank s t' k)) (slot_new k ge lt))

    -- the figure stands first in the last slot
    figure_in : (v : Summed) → (keep_sums s z e v).figure ≡ at (slot (sum_size s) (s.d - 1) (keep_sums s z e v).sums) 0
    unfolding keep_sums sum_size
    figure_in v =
        let one = shp.least in
        let r = shp.right (s.d - 1) (omega arith) in
        ap (at (keep_sums s z e v).sums) (sym (add-zero (offset (sum_size s) (s.d - 1)))) ∙ sym (get_or_slot_lem (sum_size s) (s.d - 1) (keep_sums s z e v).sums 0 nan r)

    summed_alike : Alike (running i t (keep_sums s z e u)) (running i t' (keep_sums s z e u'))
    unfolding keep_sums
    summed_alike =
        let one = shp.least in
        record {
          inputs = refl;
          steps = steps;
          sums = sums_alike;
          figure = figure_in u ∙ ap (λ (l : List Float). at l 0) (slot_new (s.d - 1) (omega arith) (omega arith)) ∙ sym (figure_in u');
          sums_long = (written_from (sum_size s) zero64 s.d first z e u.sums whole room).long ∙ long ∙ sym (written_from (sum_size s) zero64 s.d first z e u'.sums whole room').long;
        }

  sums_start : (y : ℕ) → y ≤ z → sums_at s t u y ≡ sums_at s t' u' y
  unfolding sums_at
  sums_start zero le = refl
  sums_start (suc k) le = before k le

  weighed_same : weighed_from i t z ≡ weighed_from i t' z
  unfolding weighed_at
  weighed_same = listed_same (s.d - z) z (weighed_at i t) (weighed_at i t') (λ j a b. ap (λ (c : Core). (c, points_at s i.weights j)) (steps.cores j (omega arith)))

  sum_alike : (R : Rules) → AnswersAlike (sum_from R (running i t u) z) (sum_from R (running i t' u') z)
  unfolding sum_from resum
  sum_alike R = subst (λ (o : Answer (List (List Float × Unit {0}))). AnswersAlike (of t u walked) (of t' u' o)) same (go walked refl)
    where
      of : Stepped → Summed → Answer (List (List Float × Unit {0})) → Answer Kept
      of a b o = bind (bind o (λ e. Ok (keep_sums s z e b))) (λ v. Ok (running i a v))

      walked : Answer (List (List Float × Unit {0}))
      walked = walk (sum_zone R) z (sums_at s t u z) (weighed_from i t z)

      same : walked ≡ walk (sum_zone R) z (sums_at s t' u' z) (weighed_from i t' z)
      same = ap (λ (e : List Float). walk (sum_zone R) z e (weighed_from i t z)) (sums_start z (le_refl z)) ∙ ap (walk (sum_zone R) z (sums_at s t' u' z)) weighed_same

      go : (o : Answer (List (List Float × Unit {0}))) → walked ≡ o → AnswersAlike (of t u o) (of t' u' o)
      go (Err r) h = refl
      go (Ok e) h =
          let n : length e ≡ s.d - z = walk_length (sum_zone R) z (sums_at s t u z) (weighed_from i t z) e h ∙ listed_length (s.d - z) z (weighed_at i t) in
          summed_alike e (omega arith)

-- ---- the work
module _ (R : Rules) (i : Inputs) (shp : Shaped i.shape) (t t' : Stepped) (u u' : Summed) (E : Alike (running i t u) (running i t' u'))
    (M : Roomy i.shape t) (M' : Roomy i.shape t') (room : all_sums i.shape ≤ length u.sums) (room' : all_sums i.shape ≤ length u'.sums)
    (z : ℕ) (inside : z < i.shape.d) where
  carry_same : (y : ℕ) → y < i.shape.d → carry_at i.shape t y ≡ carry_at i.shape t' y
  unfolding carry_at
  carry_same zero lt = refl
  carry_same (suc k) lt = let a = E.steps.ranks k lt in let b = E.steps.carries k lt in cc

  work_alike : AnswersAlike (work_from R (running i t u) z) (work_from R (running i t' u') z)
  unfolding work_from restep
  work_alike = subst (λ (b : Carry). AnswersAlike (of t u (walked (carry_at i.shape t z))) (of t' u' (walked b))) (carry_same z inside) (go (walked (carry_at i.shape t z)) refl)
    where
      of : Stepped → Summed → Answer (List (Carry × Cut)) → Answer Kept
      of a b o = bind (bind o (λ c. Ok (keep_step i.shape z c a))) (λ a'. sum_from R (running i a' b) z)

      walked : Carry → Answer (List (Carry × Cut))
      walked b = step_from R i.set i.shape.d z b (zones_from i z)

      go : (o : Answer (List (Carry × Cut))) → walked (carry_at i.shape t z) ≡ o → AnswersAlike (of t u o) (of t' u' o)
      go (Err r) h = refl
      go (Ok c) h =
          let s = i.shape in
          let n : length c ≡ s.d - z = step_length R i.set s.d z (carry_at s t z) (zones_from i z) c h ∙ listed_length (s.d - z) z (zone_at i) in
          let whole : z + length c ≡ s.d = omega arith in
          sum_alike i shp (keep_step s z c t) (keep_step s z c t') (steps_alike s t t' M M' E.steps z inside c whole) u u' room room' E.sums_long z inside (λ k b.
          ap (λ (m : ℕ). take m (slot (sum_size s) k u.sums)) (right_before s t M z inside c k b)
          ∙ E.sums k (omega arith)
          ∙ sym (ap (λ (m : ℕ). take m (slot (sum_size s) k u'.sums)) (right_before s t' M' z inside c k b))) R

  weights_alike : AnswersAlike (sum_from R (running i t u) z) (sum_from R (running i t' u') z)
  weights_alike = sum_alike i shp t t' E.steps u u' room room' E.sums_long z inside (λ k b. E.sums k (omega arith)) R

-- ---- a replacement
module _ (R : Rules) (i : Inputs) (t t' : Stepped) (u u' : Summed) (A : Arrays (running i t u)) (A' : Arrays (running i t' u')) (E : Alike (running i t u) (running i t' u')) (room : Check) where
  redo_alike : (q : Request) → Shaped i.shape → InOrder i.shape q → Roomy i.shape t → Roomy i.shape t' → all_sums i.shape ≤ length u.sums → all_sums i.shape ≤ length u'.sums
      → AnswersAlike (redo R q (running (present i q) t u)) (redo R q (running (present i q) t' u'))
  redo_alike (new_core z xs) shp O M M' r r' = work_alike R (present i (new_core z xs)) shp t t' u u' (record { inputs = refl; steps = E.steps; sums = E.sums; figure = E.figure; sums_long = E.sums_long }) M M' r r' z O.inside
  redo_alike (new_axis z a) shp O M M' r r' = work_alike R (present i (new_axis z a)) shp t t' u u' (record { inputs = refl; steps = E.steps; sums = E.sums; figure = E.figure; sums_long = E.sums_long }) M M' r r' z O.inside
  redo_alike (new_weights z ws) shp O M M' r r' = weights_alike R (present i (new_weights z ws)) shp t t' u u' (record { inputs = refl; steps = E.steps; sums = E.sums; figure = E.figure; sums_long = E.sums_long }) M M' r r' z O.inside

  replace_alike : (q : Request) → AnswersAlike (replace R room (running i t u) q) (replace R room (running i t' u') q)
  unfolding replace
  replace_alike q = subst (λ (c : Check). AnswersAlike (replace_ok R room (running i t u) q then new) (c then new')) (checks_same R i t t' u u' E room q) (go (replace_ok R room (running i t u) q) refl)
    where
      new : Answer Kept
      new = redo R q (running (present i q) t u)

      new' : Answer Kept
      new' = redo R q (running (present i q) t' u')

      go : (c : Check) → replace_ok R room (running i t u) q ≡ c → AnswersAlike (c then new) (c then new')
      go (Err r) h = refl
      go (Ok _) h =
          let s = i.shape in
          let P = checks_say R room (running i t u) q h in
          let P' = checks_say R room (running i t' u') q (sym (checks_same R i t t' u u' E room q) ∙ h) in
          let shp = shaped s (rank_ok s t.bonds) P.shape in
          let L = slices_are (running i t u) P.slices in
          let L' = slices_are (running i t' u') P'.slices in
          let n = L.sums in
          let n' = L'.sums in
          redo_alike q shp P.order (roomy (running i t u) A shp L) (roomy (running i t' u') A' shp L') (omega arith) (omega arith)

-- the ends of two calls: the same verdict, and runs that agree in used room
pub record EndsAlike (e e' : RunEnd) : Type 0 where
  pub verdict : e.result.verdict ≡ e'.result.verdict
  pub kept : Alike (kept_after e) (kept_after e')

ends_alike : (k k' : Kept) → Alike k k' → (scratch : List Float) (o o' : Answer Kept) → AnswersAlike o o' → EndsAlike (run_end k scratch o) (run_end k' scratch o')
unfolding run_end
ends_alike k k' E scratch (Ok a) (Ok b) h = record { verdict = refl; kept = h }
ends_alike k k' E scratch (Err r) (Err r') h = record { verdict = ap Err h; kept = E }
ends_alike k k' E scratch (Ok a) (Err r) h = absurd h
ends_alike k k' E scratch (Err r) (Ok a) h = absurd h

-- UNUSED ROOM NEVER MATTERS
pub unused_room : (R : Rules) (k k' : Kept) → Arrays k → Arrays k' → Alike k k' → (q : Request) (scratch : List Float) → EndsAlike (replace_by R k q scratch) (replace_by R k' q scratch)
unfolding replace_by
unused_room R k k' A A' E q scratch =
    let i = k.inputs in
    let t' = k'.stepped in
    let u' = k'.summed in
    let one : Arrays (running i t' u') = record { axes = A.axes; bonds = A'.bonds } in
    let two : Alike k (running i t' u') = record { inputs = refl; steps = E.steps; sums = E.sums; figure = E.figure; sums_long = E.sums_long } in
    let room = scratch_lent i.shape (scratch_place q) (length scratch) in
    subst (λ (j : Inputs). EndsAlike (run_end k scratch (replace R room k q)) (run_end (running j t' u') scratch (replace R (scratch_lent j.shape (scratch_place q) (length scratch)) (running j t' u') q))) E.inputs
    (ends_alike k (running i t' u') two scratch (replace R room k q) (replace R room (running i t' u') q) (replace_alike R i k.stepped t' k.summed u' A one two room q))
