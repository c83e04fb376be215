-- A call by its parts: the checks, the chain taken into scratch, the steps, and the end. Assumes nothing.
use mathlib.Core.Path.{◌≡◌, refl, sym, ap, ◌∙◌, subst}
use Prim.Native.Nat.{ℕ, ◌≤◌, ◌<◌}
use native.Mathlib.Omega.{arith}
use mathlib.Core.Bool.{Bool, true, false}
use mathlib.Core.List.{List, map}
use lib.Dec.{eqb}
use lib.ListN.{length, replicate}
use lib.Ieee.{Float}
use Rattle.numbers.specs.Arithmetic.{zero64}
use Rattle.answers.specs.declared.Refusal.{Refusal}
use Rattle.answers.specs.declared.Refusal.TheVariants.{Length, Number, Setting, Reach}
use Rattle.std.specs.Prelude.{Ok, Err}
use Rattle.answers.proofs.Outcomes.{passed_ok, ok_err, err_inj}
use Rattle.answers.specs.Outcome.{Answer, Check, verdict_of, ◌then◌, demand, demand_each}
use Rattle.answers.specs.Table.{before_work, Late}
use Rattle.answers.proofs.Checks.{demand_is, then_is, each_is, verdict_passed, verdict_refused}
use Rattle.answers.proofs.Late.{Early, early_demand, early_then, early_each}
use Rattle.lists.specs.Lists.{flat, pick}
use Rattle.lists.specs.Slots.{fit}
use Rattle.lists.specs.Floats.{zeros}
use Rattle.lists.proofs.Tables.{tab_map}
use Rattle.lists.proofs.Asked.{lengths_say}
use Rattle.lists.proofs.Picks.{pick_true, pick_false}
use Rattle.shape.specs.declared.Shape.{Shape}
use Rattle.shape.specs.Limits.{most_axes, scratch_for}
use Rattle.shape.specs.Shapes.{chain_ok, entries_of}
use Rattle.shape.specs.Cores.{Core, standing, reshaped}
use Rattle.stepform.specs.declared.Axis.{Axis}
use Rattle.cutform.specs.declared.Rounded.{Rounded}
use Rattle.cuts.specs.declared.Walked.{Walked}
use Rattle.cutform.specs.declared.Bond.{Bond}
use Rattle.cutform.specs.Bonds.{no_bond}
use Rattle.cutform.specs.Rounding.{After}
use Rattle.cutform.specs.Call.{lengths_ok, scratch_after, ended_as}
use Rattle.shape.proofs.Early.{early_shape}
use Rattle.rounding.proofs.Ends.{early_lengths}
use Rattle.stepform.specs.declared.Settings.{Settings}
use Rattle.stepform.specs.Call.{axis_reaches, zones_finite, settings_ok, step_ok}
use Rattle.steps.specs.Held.{Came}
use Rattle.evolution.specs.Held.{Finished, Answers}

-- ---- the end
-- what has a refusal as its verdict is that refusal
refused_is : {A : Type 0} (o : Answer A) (q : Refusal) → verdict_of o ≡ Err q → o ≡ Err q
refused_is (Ok a) q e = absurd (ok_err e)
refused_is (Err r) q e = ap Err (err_inj e)

-- the steps came to o and left u in scratch, which was x
module _ (s : Shape) (o : Answer Walked) (l u x : List Float) (r : Rounded) (l' v' : List Float) (F : Finished s o l u r l' v') (n : length u ≡ length x) where
  cleared : v' ≡ zeros (length x)
  cleared = F.cleared ∙ ap zeros n

  pub finished_is : (T : Answer After) → Late T → Came T s s o u → Answers (ended_as s l x T) r l' v'
  unfolding ended_as scratch_after standing
  finished_is (Ok a) L C =
      let P = passed_ok o C.verdict in
      let w = P.0 in
      let E = C.ends a w refl P.1 in
      let M = F.made w P.1 in
      record {
        result = M.0
            ∙ ap (λ (y : Shape). record { verdict = Ok tt; shape = y; bonds = w.bonds }) E.shape
            ∙ ap (λ (y : List Bond). record { verdict = Ok tt; shape = reshaped 0 s a.cores; bonds = y }) E.said;
        chain = M.1
            ∙ ap (λ (y : List (List Float)). fit zero64 (length l) (flat y))
            (sym (ap (map (λ (c : Core). c.entries)) E.cores ∙ tab_map (λ (c : Core). c.entries) s.d (standing s w.shape u)));
        scratch = cleared;
      }
  finished_is (Err q) L C =
      let M = F.refused q (refused_is o q C.verdict) in
      record { result = M.0; chain = M.1; scratch = cleared ∙ unpicked (before_work q) (L q refl) }
    where
      unpicked : (b : Bool) → b ≡ false → zeros (length x) ≡ pick b x (zeros (length x))
      unpicked b e = pick_false x (zeros (length x)) (zeros (length x)) b e refl

-- ---- the checks refuse before any work
module _ (lone mild : Bool) (t : Settings) (s : Shape) (count : ℕ) (xs : List Axis) (l : List Float) (scratch : ℕ) where
  abbrev ok : Check
  ok = step_ok lone mild t s count xs l scratch

  early_over : Early ok
  unfolding step_ok zones_finite settings_ok
  early_over =
      early_then (chain_ok s) _ (early_shape s (λ (k : ℕ). true))
      (early_then (demand (eqb count s.d) (Length 0)) _ (early_demand (eqb count s.d) (Length 0) refl)
      (early_then (lengths_ok s 1 (length l) 2 scratch) _ (early_lengths s 1 (length l) 2 scratch)
      (early_then (demand lone (Number 0)) _ (early_demand lone (Number 0) refl)
      (early_then (zones_finite s xs l) _ (early_each Number _ s.d 0 (λ j. refl))
      (early_then (demand mild (Setting 0)) _ (early_demand mild (Setting 0) refl)
      (early_then (demand_each Setting _ s.d 0) _ (early_each Setting _ s.d 0 (λ j. refl)) (early_each Reach _ s.d 0 (λ j. refl))))))))

  -- v is the verdict on the checks
  module _ (v : Check) (e : v ≡ ok) (T : Answer After) (x : List Float) where
    pub over_stops : (q : Refusal) → v ≡ Err q → (r : Rounded) → r ≡ record { verdict = Err q; shape = s; bonds = replicate most_axes no_bond } → Answers (ended_as s l x (ok then T)) r l x
    unfolding ended_as scratch_after
    over_stops q h r f =
        let c = verdict_refused ok v q e h in
        let g : ok then T ≡ Err q = ap (λ (y : Check). y then T) c in
        subst (λ (y : Answer After). Answers (ended_as s l x y) r l x) (sym g)
        (record { result = f; chain = refl; scratch = pick_true x (zeros (length x)) x (before_work q) (early_over.first q c) refl })

    pub over_goes : v ≡ Ok tt → (r : Rounded) (l' v' : List Float) → Answers (ended_as s l x T) r l' v' → Answers (ended_as s l x (ok then T)) r l' v'
    over_goes h r l' v' A = subst (λ (c : Check). Answers (ended_as s l x (c then T)) r l' v') (sym (verdict_passed ok v e h)) A

  -- what passed checks let the work ask
  pub record Passed : Type 0 where
    pub shape : chain_ok s ≡ Ok tt
    pub long : length l ≡ entries_of s
    pub wide : entries_of s ≤ scratch
    pub within : mild ≡ true
    pub reach : (k : ℕ) → k < s.d → axis_reaches t s xs k ≡ true

  pub over_passed : (v : Check) → v ≡ ok → v ≡ Ok tt → Passed
  unfolding step_ok lengths_ok settings_ok
  over_passed v e h =
      let a = then_is (chain_ok s) _ tt (verdict_passed ok v e h) in
      let b = then_is (demand (eqb count s.d) (Length 0)) _ tt a.1 in
      let c = then_is (lengths_ok s 1 (length l) 2 scratch) _ tt b.1 in
      let d = then_is (demand lone (Number 0)) _ tt c.1 in
      let f = then_is (zones_finite s xs l) _ tt d.1 in
      let g = then_is (demand mild (Setting 0)) _ tt f.1 in
      let i = then_is (demand_each Setting _ s.d 0) _ tt g.1 in
      let n = lengths_say (length l) (entries_of s) scratch (scratch_for (entries_of s)) (Length 1) (Length 2) c.0 in
      record { shape = a.0; long = n.0; wide = omega (arith, n.1); within = demand_is mild (Setting 0) g.0; reach = λ k q. each_is Reach (axis_reaches t s xs) s.d 0 i.1 k (omega arith) (omega arith) }
