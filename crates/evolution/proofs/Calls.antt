-- The calls by their parts. Assumes nothing.
use mathlib.Core.Path.{◌≡◌, refl, sym, ap, ◌∙◌, subst}
use Prim.Native.Nat.{ℕ, ◌≤◌}
use mathlib.Core.Bool.{Bool, true, false, ◌&&◌, true≢false}
use mathlib.Core.List.{List}
use lib.ListN.{length, replicate, take}
use Rattle.numbers.specs.Arithmetic.{zero64}
use Rattle.lists.specs.Lists.{joined}
use Rattle.lists.specs.Slots.{slot, fit}
use lib.Ieee.{Float}
use Rattle.answers.specs.declared.Refusal.{Refusal}
use Rattle.std.specs.Prelude.{Ok, Err}
use Rattle.answers.specs.Outcome.{Answer, Check, ◌then◌, bind, demand, verdict_of}
use Rattle.answers.specs.Table.{Late}
use Rattle.answers.proofs.Late.{late_ok, late_bind}
use Rattle.answers.proofs.Outcomes.{passed_ok, bind_cong, ok_inj, err_inj, ok_err}
use Rattle.lists.proofs.Tests.{both}
use Rattle.shape.specs.declared.Shape.{Shape}
use Rattle.shape.specs.Limits.{most_axes, within}
use Rattle.shape.specs.Shapes.{chain_ok, core_size}
use Rattle.shape.specs.Sizes.{SizesWithin, Inside}
use Rattle.shape.specs.Cores.{Core, cores_of}
use Rattle.shape.proofs.Shaped.{shaped, within_is}
use Rattle.stepform.specs.declared.Axis.{Axis}
use Rattle.cutform.specs.declared.Rounded.{Rounded}
use Rattle.cutform.specs.declared.Cutting.{Cutting}
use Rattle.cutform.specs.Bonds.{no_bond}
use Rattle.std.specs.Result.{IfOk}
use Rattle.cuts.specs.declared.Walked.{Walked}
use Rattle.cutform.specs.Rounding.{After, after_cuts}
use Rattle.cutform.specs.Call.{not_below_zero, cutting_ok, Ended, ended_as, ended_by}
use Rattle.rounding.specs.Slots.{finished}
use Rattle.stepform.specs.declared.Settings.{Settings}
use Rattle.stepform.specs.Steps.{step, steps_of}
use Rattle.stepform.specs.Lone.{lone_finite, lone_ok, most_steps, course_finite, course_ok}
use Rattle.stepform.specs.Call.{settings_ok, step_ok, step_over, settings_for, evolve_over}
use Rattle.steps.specs.Held.{step_of, Came}
use Rattle.evolution.specs.Held.{Finished, Answers}
use Rattle.stepform.proofs.Late.{late_step}
use Rattle.evolution.proofs.Ends.{finished_is, over_stops, over_goes, over_passed}

pub came_inside : (T : Answer After) (s t : Shape) (o : Answer Walked) (w : List Float) → Came T s t o w → IfOk o (λ (x : Walked). Inside s x.shape)
came_inside T s t o w C = go o refl
  where
    go : (u : Answer Walked) → o ≡ u → IfOk u (λ (x : Walked). Inside s x.shape)
    go (Ok x) h = let D = passed_ok T (sym C.verdict ∙ ap verdict_of h) in (C.ends D.0 x D.1 h).inside
    go (Err q) h = tt

pub ok_sizes : (s : Shape) → chain_ok s ≡ Ok tt → SizesWithin s
ok_sizes s e = (shaped s (λ (k : ℕ). true) e).sizes

-- ---- the end
-- the call's end as `finish` answers it
pub finished_as : (s : Shape) (o : Answer Walked) (l v : List Float) (e : Ended) → e ≡ finished s o l v → Finished s o l v e.result e.chain e.scratch
finished_as s (Ok x) l v e p = record {
  cleared = ap (λ (y : Ended). y.scratch) p;
  refused = λ q g. absurd (ok_err g);
  made = λ w g.
      subst
      (λ (y : Walked). (e.result ≡ record { verdict = Ok tt; shape = y.shape; bonds = y.bonds })
      × (e.chain ≡ fit zero64 (length l) (joined s.d (λ (k : ℕ). take (core_size y.shape k) (slot (core_size s) k v))))) (ok_inj g)
      (ap (λ (y : Ended). y.result) p, ap (λ (y : Ended). y.chain) p);
}
finished_as s (Err q) l v e p = record {
  cleared = ap (λ (y : Ended). y.scratch) p;
  refused = λ r g. (ap (λ (y : Ended). y.result) p ∙ ap (λ (y : Refusal). record { verdict = Err y; shape = s; bonds = replicate most_axes no_bond }) (err_inj g), ap (λ (y : Ended). y.chain) p);
  made = λ w g. absurd (ok_err (sym g));
}

pub work_done : (T : Answer After) (s : Shape) (o : Answer Walked) (l u x : List Float) (r : Rounded) (l' v' : List Float) → length u ≡ length x → Late T
    → Came T s s o u → Finished s o l u r l' v' → Answers (ended_as s l x T) r l' v'
work_done T s o l u x r l' v' n L C F = finished_is s o l u x r l' v' F n T L C

-- one step refuses late
pub late_once : (set : Settings) (xs : List Axis) (cs : List Core) → Late (step_of set xs cs)
late_once set xs cs = late_bind (step set xs cs) _ (late_step set xs cs) (λ tr. late_ok _)

-- ---- `step`
module _ (set : Settings) (s : Shape) (count : ℕ) (xs : List Axis) (l x : List Float) (lone mild : Bool)
    (a : lone ≡ lone_finite set) (b : mild ≡ lone_ok set)
    (v : Check) (e : v ≡ step_ok lone mild set s count xs l (length x)) where
  -- what is left, once the checks have passed
  checked_first : (c : Check) → bind (c then step set xs (cores_of s l)) (λ tr. Ok (after_cuts tr)) ≡ c then step_of set xs (cores_of s l)
  checked_first (Ok u) = refl
  checked_first (Err q) = refl

  step_opened : ended_as s l x (step_ok lone mild set s count xs l (length x) then step_of set xs (cores_of s l)) ≡ step_over set s count xs l x
  unfolding step_over
  step_opened =
      ap (λ (y : Bool). ended_as s l x (step_ok y mild set s count xs l (length x) then step_of set xs (cores_of s l))) a
      ∙ ap (λ (y : Bool). ended_as s l x (step_ok (lone_finite set) y set s count xs l (length x) then step_of set xs (cores_of s l))) b
      ∙ ap (ended_as s l x) (sym (checked_first (step_ok (lone_finite set) (lone_ok set) set s count xs l (length x))))

  pub step_stops : (q : Refusal) → v ≡ Err q → (r : Rounded) → r ≡ record { verdict = Err q; shape = s; bonds = replicate most_axes no_bond } → Answers (step_over set s count xs l x) r l x
  step_stops q h r f = subst (λ (y : Ended). Answers y r l x) step_opened (over_stops lone mild set s count xs l (length x) v e (step_of set xs (cores_of s l)) x q h r f)

  pub step_goes : v ≡ Ok tt → (r : Rounded) (l' v' : List Float) → Answers (ended_by s l x (step set xs (cores_of s l))) r l' v' → Answers (step_over set s count xs l x) r l' v'
  step_goes h r l' v' A = subst (λ (y : Ended). Answers y r l' v') step_opened (over_goes lone mild set s count xs l (length x) v e (step_of set xs (cores_of s l)) x h r l' v' A)

-- an accepted number of steps
accepted : (final : Float) (cutting : Cutting) (mild : Bool) (steps : ℕ) → mild ≡ course_ok final steps cutting → mild ≡ true → (1 ≤ steps) × (steps ≤ most_steps)
unfolding course_ok
accepted final cutting mild steps e h =
    let b = cutting_ok cutting in
    within_is most_steps steps (both (within most_steps steps) b (both (not_below_zero final) (within most_steps steps && b) (sym e ∙ h)).1).0

-- checks that end at 7 ask nothing of tau
alike_checks : (k : Bool) (y z : Settings) (s : Shape) (count : ℕ) (xs : List Axis) (l : List Float) (n : ℕ) → step_ok k false y s count xs l n ≡ step_ok k false z s count xs l n
unfolding step_ok settings_ok demand
alike_checks k y z s count xs l n = refl

-- ---- `evolve`
module _ (final : Float) (steps : ℕ) (c : Float) (cutting : Cutting) (s : Shape) (count : ℕ) (xs : List Axis) (l x : List Float) (lone mild : Bool) (set : Settings)
    (a : lone ≡ course_finite final c cutting) (b : mild ≡ course_ok final steps cutting) (t : steps ≤ most_steps → set ≡ settings_for final steps c cutting)
    (v : Check) (e : v ≡ step_ok lone mild set s count xs l (length x)) where
  abbrev all : Settings → Answer After
  all y = steps_of steps y xs (cores_of s l)

  -- too many steps are refused, whatever tau is
  any_settings : (m : Bool) → m ≡ course_ok final steps cutting → (k : Bool)
      → ended_as s l x (step_ok k m set s count xs l (length x) then all set)
      ≡ ended_as s l x (step_ok k m (settings_for final steps c cutting) s count xs l (length x) then all (settings_for final steps c cutting))
  any_settings true h k = ap (λ (y : Settings). ended_as s l x (step_ok k true y s count xs l (length x) then all y)) (t (accepted final cutting true steps h refl).1)
  any_settings false h k = ap (ended_as s l x)
      (bind_cong (step_ok k false set s count xs l (length x)) _ _ (λ a e. absurd (never k set e))
      ∙ ap (λ (y : Check). y then all (settings_for final steps c cutting)) (alike_checks k set (settings_for final steps c cutting) s count xs l (length x)))
    where
      never : (k : Bool) (y : Settings) {a : Unit {0}} → step_ok k false y s count xs l (length x) ≡ Ok a → ⊥
      never k y e = true≢false (sym (over_passed k false y s count xs l (length x) ((step_ok k false y s count xs l (length x))) refl e).within)

  evolve_opened : ended_as s l x (step_ok lone mild set s count xs l (length x) then all set) ≡ evolve_over final steps c cutting s count xs l x
  unfolding evolve_over
  evolve_opened =
      any_settings mild b lone
      ∙ ap (λ (y : Bool). ended_as s l x (step_ok y mild (settings_for final steps c cutting) s count xs l (length x) then all (settings_for final steps c cutting))) a
      ∙ ap (λ (y : Bool). ended_as s l x (step_ok (course_finite final c cutting) y (settings_for final steps c cutting) s count xs l (length x) then all (settings_for final steps c cutting))) b

  pub evolve_stops : (q : Refusal) → v ≡ Err q → (r : Rounded) → r ≡ record { verdict = Err q; shape = s; bonds = replicate most_axes no_bond } → Answers (evolve_over final steps c cutting s count xs l x) r l x
  evolve_stops q h r f = subst (λ (y : Ended). Answers y r l x) evolve_opened (over_stops lone mild set s count xs l (length x) v e (all set) x q h r f)

  pub evolve_goes : v ≡ Ok tt → (r : Rounded) (l' v' : List Float) → Answers (ended_as s l x (all set)) r l' v' → Answers (evolve_over final steps c cutting s count xs l x) r l' v'
  evolve_goes h r l' v' A = subst (λ (y : Ended). Answers y r l' v') evolve_opened (over_goes lone mild set s count xs l (length x) v e (all set) x h r l' v' A)

-- ---- records that were lent
-- a call over records by value, which is another over those that were lent
pub ends_as : (e f : Ended) → e ≡ f → (r : Rounded) (l v : List Float) → Answers e r l v → (r ≡ f.result) × (l ≡ f.chain) × (v ≡ f.scratch)
ends_as e f p r l v A = (A.result ∙ ap (λ (y : Ended). y.result) p, A.chain ∙ ap (λ (y : Ended). y.chain) p, A.scratch ∙ ap (λ (y : Ended). y.scratch) p)
