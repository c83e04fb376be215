-- The end of a fresh run, by what the work from zone 0 on came to. Assumes nothing.
use mathlib.Core.Path.{◌≡◌, refl, sym, ap, ◌∙◌, subst}
use Prim.Native.Nat.{ℕ, ◌-◌}
use native.Mathlib.Nat.{le_of_eq}
use mathlib.Core.List.{List, ◌++◌, map}
use lib.ListN.{length, drop_of_length-le, length-replicate}
use lib.Ieee.{Float}
use Rattle.numbers.specs.Arithmetic.{zero64}
use Rattle.answers.specs.declared.Refusal.{Refusal}
use Rattle.answers.specs.declared.Refusal.TheVariants.{Length, Number, Setting, Reach}
use Rattle.std.specs.Prelude.{Ok, Err}
use Rattle.answers.specs.Outcome.{Answer, bind, Check, ◌then◌}
use Rattle.answers.proofs.Outcomes.{bind_cong}
use Rattle.answers.proofs.Late.{Early, early_demand, early_then, early_each}
use Rattle.lists.specs.Slots.{offset, laid, write}
use Rattle.lists.specs.Walks.{walk}
use Rattle.lists.specs.Floats.{at, zeros}
use Rattle.shape.specs.declared.Shape.{Shape}
use Rattle.shape.specs.Shapes.{core_size, entries_of}
use Rattle.stepform.specs.declared.Axis.{Axis}
use Rattle.cutform.specs.Rounding.{Carry, none, Cut, numbers_in}
use Rattle.cutform.specs.Keeping.{Stepped, carry_size, keep_step}
use Rattle.shape.proofs.Early.{early_shape}
use Rattle.sumform.specs.Product.{start_sums}
use Rattle.sumform.specs.Sums.{sum_size}
use Rattle.stepform.specs.declared.Settings.{Settings}
use Rattle.stepform.specs.Zones.{rules}
use Rattle.stepform.specs.Steps.{step_from}
use Rattle.runform.specs.declared.Run.{Run}
use Rattle.runform.specs.declared.Ran.{Ran}
use Rattle.runform.specs.Slices.{Outputs, Slices, each_output, slice_count}
use Rattle.runform.specs.Kept.{Inputs, Summed, Kept, running, inputs_of, kept_of, all_carries, all_sums, room_for, blank_run, bare, blank, zones_from, carry_at, sums_at, weighed_from}
use Rattle.runform.specs.Work.{keep_sums, sum_zone, restep, resum, sum_from, work_from}
use Rattle.runform.specs.Checks.{scratch_lent, made_ok, fresh_ok, fresh_run}
use Rattle.runform.specs.Call.{run_end, room_lent, fresh_by, fresh_call}
use Rattle.runform.proofs.Late.{late_work}
use Rattle.run_work.specs.Renewed.{SourcesFrom, RenewAsks, Renewed}
use Rattle.runs.proofs.Replaced.{early_lent}
use Rattle.runs.proofs.Ends.{checks_stop, checks_pass, ran_is, end_same, end_refused, end_done}
use Rattle.runs.proofs.Renewals.{whole_refused, whole_done}

-- ---- the checks refuse before any work
early_fresh : (room : Check) → Early room → (i : Inputs) → Early (fresh_ok rules room i)
unfolding fresh_ok made_ok
early_fresh room h i =
    let d = i.shape.d in
    early_then _ _ (early_shape i.shape _)
    (early_then _ _ (early_lent 0 _ _)
    (early_then _ _ h
    (early_then _ _
    (early_then _ _ (early_demand _ (Number 0) refl)
    (early_then _ _ (early_each Number _ d 0 (λ j. refl))
    (early_then _ _ (early_demand _ (Setting 0) refl) (early_each Setting _ d 0 (λ j. refl)))))
    (early_each Reach _ d 0 (λ j. refl)))))

early_room : (s : Shape) (m : Outputs ℕ) (n : ℕ) → Early (room_lent s m n)
unfolding room_lent scratch_lent
early_room s m n = early_then _ _ (early_lent 2 _ _) (early_demand _ (Length slice_count) refl)

-- ---- from zone 0 on every slot is written, so what stood there is not asked
write_all : (size : ℕ → ℕ) (o : Float) (d : ℕ) (q : List (List Float)) (l l' : List Float) → length l ≡ offset size d → length l' ≡ offset size d → write size o d 0 q l ≡ write size o d 0 q l'
unfolding write offset
write_all size o d q l l' e e' = ap (λ (x : List Float). laid size o 0 q ++ x) (drop_of_length-le l {i = offset size d} (le_of_eq e) ∙ sym (drop_of_length-le l' {i = offset size d} (le_of_eq e')))

module _ (i : Inputs) (h h' : Stepped) (bonds : h.bonds ≡ h'.bonds)
    (c : length h.chain ≡ entries_of i.shape) (c' : length h'.chain ≡ entries_of i.shape) (b : length h.carries ≡ all_carries i.shape) (b' : length h'.carries ≡ all_carries i.shape) where
  step_any : (tr : List (Carry × Cut)) → keep_step i.shape 0 tr h ≡ keep_step i.shape 0 tr h'
  unfolding keep_step
  step_any tr =
      let chain = write_all (core_size i.shape) zero64 i.shape.d (map (λ (r : Carry × Cut). r.1.core.entries) tr) h.chain h'.chain c c' in
      let carries = write_all (carry_size i.shape) zero64 i.shape.d (map (λ (r : Carry × Cut). numbers_in r.0) tr) h.carries h'.carries b b' in
      cc (chain, carries, bonds)

  module _ (u u' : Summed) (n : length u.sums ≡ all_sums i.shape) (n' : length u'.sums ≡ all_sums i.shape) where
    sums_any : (e : List (List Float × Unit {0})) → keep_sums i.shape 0 e u ≡ keep_sums i.shape 0 e u'
    unfolding keep_sums
    sums_any e =
        let q = map (λ (r : List Float × Unit {0}). r.0) e in
        ap (λ (l : List Float). record { sums = l; figure = at l (offset (sum_size i.shape) (i.shape.d - 1)) }) (write_all (sum_size i.shape) zero64 i.shape.d q u.sums u'.sums n n')

    sum_any : (t : Stepped) → sum_from rules (running i t u) 0 ≡ sum_from rules (running i t u') 0
    unfolding sum_from resum sums_at
    sum_any t =
        ap (λ (o : Answer Summed). bind o (λ v. Ok (running i t v)))
        (bind_cong (walk (sum_zone rules) 0 start_sums (weighed_from i t 0)) (λ e. Ok (keep_sums i.shape 0 e u)) (λ e. Ok (keep_sums i.shape 0 e u')) (λ e _. ap Ok (sums_any e)))

    work_any : work_from rules (running i h u) 0 ≡ work_from rules (running i h' u') 0
    unfolding work_from restep carry_at
    work_any =
        let T = step_from rules i.set i.shape.d 0 none (zones_from i 0) in
        ap (λ (o : Answer Stepped). bind o (λ t. sum_from rules (running i t u) 0)) (bind_cong T (λ tr. Ok (keep_step i.shape 0 tr h)) (λ tr. Ok (keep_step i.shape 0 tr h')) (λ tr _. ap Ok (step_any tr)))
        ∙ bind_cong (restep rules i h' 0) (λ t. sum_from rules (running i t u) 0) (λ t. sum_from rules (running i t u') 0) (λ t _. sum_any t)

-- ---- the call
module _ (s : Shape) (xs : List Axis) (set : Settings) (m : Slices (List Float)) (scratch : List Float) (v : Check)
    (e : v ≡ fresh_ok rules (room_lent s (each_output length m.outputs) (length scratch)) (inputs_of s xs set m)) where
  abbrev i : Inputs
  i = inputs_of s xs set m

  abbrev ok : Check
  ok = fresh_ok rules (room_lent s (each_output length m.outputs) (length scratch)) i

  -- the run that keeps nothing yet
  abbrev r0 : Run
  r0 = blank_run s xs set

  abbrev work0 : Answer Kept
  work0 = work_from rules (blank i) 0

  called : fresh_call s xs set m scratch ≡ run_end (kept_of r0 m) scratch (ok then work0)
  unfolding fresh_by fresh_run bare
  called = refl

  -- refused by a check, all is as it was
  pub fresh_stops : (r : Run) → r ≡ blank_run s xs set → (q : Refusal) → v ≡ Err q
      → (a : Ran) → a ≡ record { verdict = Err q; run = r } → record { result = a; slices = m; scratch = scratch } ≡ fresh_call s xs set m scratch
  fresh_stops r j q h a f =
      checks_stop (kept_of r0 m) scratch ok work0 v e (early_fresh _ (early_room s _ _) i) q h a (f ∙ ap (λ (x : Run). record { verdict = Err q; run = x }) j) ∙ sym called

  -- the run r that keeps nothing yet is made anew from zone 0 on
  module _ (h : v ≡ Ok tt) (r : Run) (j : r ≡ blank_run s xs set) (work : List Float) (A : RenewAsks r 0 m.weights m.outputs work) (a : Ran) (m' : Outputs (List Float))
      (R : Renewed r 0 m.weights m.outputs work a m') (S : SourcesFrom s 0 m.source work) (u : List Float) (c : u ≡ zeros (length scratch)) where
    R0 : Renewed r0 0 m.weights m.outputs work a m'
    R0 = subst (λ (t : Run). Renewed t 0 m.weights m.outputs work a m') j R

    -- what stands in the slices is not asked
    from_blank : work_from rules (blank i) 0 ≡ work_from rules (kept_of r0 m) 0
    unfolding blank bare
    from_blank =
        let k = kept_of r0 m in
        let long : each_output length m.outputs ≡ room_for s = A.long ∙ ap (λ (t : Run). room_for t.shape) j in
        sym (work_any i k.stepped (blank i).stepped refl (ap (λ (l : Outputs ℕ). l.chain) long) (length-replicate (entries_of s) zero64)
        (ap (λ (l : Outputs ℕ). l.carries) long) (length-replicate (all_carries s) zero64)
        k.summed (blank i).summed (ap (λ (l : Outputs ℕ). l.sums) long) (length-replicate (all_sums s) zero64))

    pub fresh_ends : record { result = a; slices = record { source = m.source; weights = m.weights; outputs = m' }; scratch = u } ≡ fresh_call s xs set m scratch
    fresh_ends = by_verdict a.verdict refl ∙ checks_pass (kept_of r0 m) scratch ok work0 v e h ∙ sym called
      where
        by_verdict : (w : Check) → a.verdict ≡ w → record { result = a; slices = record { source = m.source; weights = m.weights; outputs = m' }; scratch = u } ≡ run_end (kept_of r0 m) scratch work0
        by_verdict (Ok _) f =
            end_same m.source m.weights u (ran_is a (Ok tt) a.run f refl) refl
            ∙ end_done (kept_of r0 m) scratch u c work0 (kept_of a.run (record { source = m.source; weights = m.weights; outputs = m' }))
            (from_blank ∙ whole_done r0 0 m.weights m.outputs work a m' R0 m.source S f)
        by_verdict (Err q) f =
            let L = R0.left q f in
            end_same m.source m.weights u (ran_is a (Err q) r0 f L.0) L.1
            ∙ end_refused (kept_of r0 m) scratch u c work0 q (from_blank ∙ whole_refused r0 0 m.weights m.outputs work a m' R0 m.source S q f) (late_work _ 0)
