-- What an accepted replacement doesn't write keeps its bits, on any run, also one that others wrote to. Assumes nothing of the rules.
use mathlib.Core.Path.{◌≡◌, refl, sym, ap, ◌∙◌, subst}
use Prim.Native.Nat.{ℕ, ◌+◌, ◌-◌, ◌<◌}
use native.Mathlib.Omega.{arith}
use mathlib.Core.List.{List}
use lib.ListN.{length}
use lib.Ieee.{Float}
use Rattle.numbers.specs.Arithmetic.{zero64}
use Rattle.answers.specs.declared.Refusal.{Refusal}
use Rattle.std.specs.Prelude.{Ok, Err}
use Rattle.answers.specs.Outcome.{Answer, verdict_of}
use Rattle.answers.proofs.Outcomes.{bind_ok, ok_inj, passed_ok}
use Rattle.lists.specs.Slots.{WrittenFrom}
use Rattle.lists.specs.Walks.{walk}
use Rattle.lists.proofs.Tables.{listed_length}
use Rattle.lists.proofs.Walks.{walk_length}
use Rattle.lists.proofs.Written.{written_from}
use Rattle.shape.specs.Shapes.{core_size, entries_of, all_points}
use Rattle.shape.proofs.Shaped.{Shaped, shaped}
use Rattle.cutform.specs.Bonds.{no_bond}
use Rattle.cutform.specs.Rounding.{Carry, Cut, numbers_in}
use Rattle.stepform.specs.Zones.{Rules}
use Rattle.stepform.specs.Steps.{step_from}
use Rattle.stepform.proofs.Restart.{step_length}
use Rattle.sumform.specs.Sums.{sum_size}
use Rattle.runform.specs.Kept.{Inputs, Summed, Kept, running, all_carries, all_sums, lengths_of, zone_at, zones_from, carry_at, sums_at, weighed_at, weighed_from}
use Rattle.cutform.specs.Keeping.{Stepped, bond_size, carry_size, keep_step}
use Rattle.runform.specs.Work.{keep_sums, sum_zone, restep, resum, sum_from, work_from}
use Rattle.runform.specs.Checks.{rank_ok, slices_lent, scratch_lent}
use Rattle.runform.specs.Requests.{Request, new_core, new_axis, new_weights, present, InOrder, redo, replace}
use Rattle.runform.specs.Call.{scratch_place, run_end, replace_by}
use Rattle.runform.specs.Left.{StepFrom, Left, Arrays}
use Rattle.runform.specs.Sequence.{kept_after}
use Rattle.runform.proofs.InRow.{lent_is}
use Rattle.runform.proofs.Accepted.{accepted}
use Rattle.runform.proofs.Before.{bond_count, Roomy}

-- ---- the room of a run that is accepted
pub record Long (k : Kept) : Type 0 where
  pub source : length k.inputs.source ≡ entries_of k.inputs.shape
  pub weights : length k.inputs.weights ≡ all_points k.inputs.shape
  pub chain : length k.stepped.chain ≡ entries_of k.inputs.shape
  pub carries : length k.stepped.carries ≡ all_carries k.inputs.shape
  pub sums : length k.summed.sums ≡ all_sums k.inputs.shape

pub slices_are : (k : Kept) → slices_lent k.inputs.shape (lengths_of k) ≡ Ok tt → Long k
slices_are k e = let l = lent_is 0 _ _ refl e in record { source = cc; weights = cc; chain = cc; carries = cc; sums = cc }

pub roomy : (k : Kept) → Arrays k → Shaped k.inputs.shape → Long k → Roomy k.inputs.shape k.stepped
roomy k A S L =
    let b = bond_count k.inputs.shape S.least in
    let m = S.most in
    let r = A.bonds in
    let c = L.chain in
    let y = L.carries in
    record { bonds = omega arith; chain = omega arith; carries = omega arith }

-- ---- the work
module _ (R : Rules) (i : Inputs) (z : ℕ) (inside : z < i.shape.d) where
  step_left : (t t' : Stepped) → Roomy i.shape t → restep R i t z ≡ Ok t' → StepFrom i.shape z t t'
  unfolding restep keep_step
  step_left t t' M e =
      let s = i.shape in
      let A = bind_ok (step_from R i.set s.d z (carry_at s t z) (zones_from i z)) (λ c. Ok (keep_step s z c t)) t' e in
      let c = A.0 in
      let n : length c ≡ s.d - z = step_length R i.set s.d z (carry_at s t z) (zones_from i z) c A.1 ∙ listed_length (s.d - z) z (zone_at i) in
      let all : z + length c ≡ s.d = omega arith in
      subst (λ (x : Stepped). StepFrom s z t x) (ok_inj A.2) (record {
        bonds = written_from (bond_size s) no_bond s.d (λ (r : Carry × Cut). r.1.bonds) z c t.bonds all M.bonds;
        chain = written_from (core_size s) zero64 s.d (λ (r : Carry × Cut). r.1.core.entries) z c t.chain all M.chain;
        carries = written_from (carry_size s) zero64 s.d (λ (r : Carry × Cut). numbers_in r.0) z c t.carries all M.carries;
      })

  sums_left_lem : (t : Stepped) (u u' : Summed) → length u.sums ≡ all_sums i.shape → resum R i t u z ≡ Ok u' → WrittenFrom (sum_size i.shape) z i.shape.d u.sums u'.sums
  unfolding resum keep_sums
  sums_left_lem t u u' long e =
      let s = i.shape in
      let A = bind_ok (walk (sum_zone R) z (sums_at s t u z) (weighed_from i t z)) (λ c. Ok (keep_sums s z c u)) u' e in
      let c = A.0 in
      let n : length c ≡ s.d - z = walk_length (sum_zone R) z (sums_at s t u z) (weighed_from i t z) c A.1 ∙ listed_length (s.d - z) z (weighed_at i t) in
      subst (λ (x : Summed). WrittenFrom (sum_size s) z s.d u.sums x.sums) (ok_inj A.2) (written_from (sum_size s) zero64 s.d (λ (r : List Float × Unit {0}). r.0) z c u.sums (omega arith) (omega arith))

  sum_left : (t : Stepped) (u : Summed) (k' : Kept) → length u.sums ≡ all_sums i.shape → sum_from R (running i t u) z ≡ Ok k'
      → (k'.inputs ≡ i) × (k'.stepped ≡ t) × WrittenFrom (sum_size i.shape) z i.shape.d u.sums k'.summed.sums
  unfolding sum_from
  sum_left t u k' long e =
      let B = bind_ok (resum R i t u z) (λ v. Ok (running i t v)) k' e in
      let p = ok_inj B.2 in
      (ap (λ (x : Kept). x.inputs) (sym p), ap (λ (x : Kept). x.stepped) (sym p), subst (λ (x : Kept). WrittenFrom (sum_size i.shape) z i.shape.d u.sums x.summed.sums) p (sums_left_lem t u B.0 long B.1))

  work_left : (t : Stepped) (u : Summed) (k' : Kept) → Roomy i.shape t → length u.sums ≡ all_sums i.shape → work_from R (running i t u) z ≡ Ok k'
      → (k'.inputs ≡ i) × StepFrom i.shape z t k'.stepped × WrittenFrom (sum_size i.shape) z i.shape.d u.sums k'.summed.sums
  unfolding work_from
  work_left t u k' M long e =
      let A = bind_ok (restep R i t z) (λ t'. sum_from R (running i t' u) z) k' e in
      let B = sum_left A.0 u k' long A.2 in
      (B.0, subst (λ (x : Stepped). StepFrom i.shape z t x) (sym B.1) (step_left t A.0 M A.1), B.2)

redone_left : (R : Rules) (k k' : Kept) (q : Request) → InOrder k.inputs.shape q → Roomy k.inputs.shape k.stepped → length k.summed.sums ≡ all_sums k.inputs.shape
    → redo R q (running (present k.inputs q) k.stepped k.summed) ≡ Ok k' → Left k k' q
redone_left R k k' (new_core z xs) O M long e = let w = work_left R (present k.inputs (new_core z xs)) z O.inside k.stepped k.summed k' M long e in record { inputs = w.0; stepped = w.1; sums = w.2 }
redone_left R k k' (new_axis z a) O M long e = let w = work_left R (present k.inputs (new_axis z a)) z O.inside k.stepped k.summed k' M long e in record { inputs = w.0; stepped = w.1; sums = w.2 }
redone_left R k k' (new_weights z ws) O M long e = let w = sum_left R (present k.inputs (new_weights z ws)) z O.inside k.stepped k.summed k' long e in record { inputs = w.0; stepped = w.1; sums = w.2 }

module _ (R : Rules) (k : Kept) (q : Request) (scratch : List Float) where
  -- accepted: the new part is in, and what stands before its zone keeps its bits
  pub untouched : Arrays k → (replace_by R k q scratch).result.verdict ≡ Ok tt → Left k (kept_after (replace_by R k q scratch)) q
  unfolding replace_by run_end
  untouched A e =
      let room = scratch_lent k.inputs.shape (scratch_place q) (length scratch) in
      let D = passed_ok (replace R room k q) e in
      let W = accepted R room k D.0 q D.1 in
      let P = W.0 in
      let L = slices_are k P.slices in
      let M = roomy k A (shaped k.inputs.shape (rank_ok k.inputs.shape k.stepped.bonds) P.shape) L in
      subst (λ (o : Answer Kept). Left k (kept_after (run_end k scratch o)) q) (sym D.1) (redone_left R k D.0 q P.order M L.sums W.1)

  -- refused: record and slices are as they were
  pub refused_leaves : (r : Refusal) → (replace_by R k q scratch).result.verdict ≡ Err r → kept_after (replace_by R k q scratch) ≡ k
  unfolding replace_by run_end
  refused_leaves r e = go (replace R (scratch_lent k.inputs.shape (scratch_place q) (length scratch)) k q) e
    where
      go : (o : Answer Kept) → verdict_of o ≡ Err r → kept_after (run_end k scratch o) ≡ k
      go (Ok k') h = let z : ◌≡◌ {A = ℕ} 0 1 = cc in let n : ⊥ = omega arith in absurd n
      go (Err r') h = refl
