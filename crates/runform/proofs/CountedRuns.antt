-- The counts and the flags that a run holds are those of the stated iteration on its source, bond by bond: of a fresh run, and of any run that is as fresh, as demand 3 says of every replaced one.
use mathlib.Core.Path.{◌≡◌, refl, sym, ap, ◌∙◌, subst}
use Prim.Native.Nat.{ℕ, suc, ◌<◌}
use native.Mathlib.Omega.{arith}
use mathlib.Core.List.{List, [], ◌∷◌, map}
use lib.ListN.{length, get_or}
use lib.Ieee.{Float}
use Rattle.std.specs.Prelude.{Ok}
use Rattle.answers.proofs.Outcomes.{bind_ok, ok_inj}
use Rattle.answers.proofs.Checks.{then_is}
use Rattle.lists.specs.Slots.{fit, write}
use Rattle.lists.proofs.Tables.{listed_length}
use Rattle.lists.proofs.Written.{written_slot}
use Rattle.shape.specs.declared.Shape.{Shape}
use Rattle.shape.specs.Limits.{most_axes}
use Rattle.shape.specs.Cores.{core_at, cores_of}
use Rattle.stepform.specs.declared.Axis.{Axis}
use Rattle.cutform.specs.Bonds.{no_bond}
use Rattle.cutform.specs.Rounding.{Carry, Cut, cores_in}
use Rattle.cutform.proofs.CountedBonds.{all_counted}
use Rattle.cutform.specs.Keeping.{bond_size, Stepped, keep_step}
use Rattle.cutform.proofs.BondSlots.{bond_one, bond_at}
use Rattle.sumform.specs.Product.{sums, inner}
use Rattle.stepform.specs.declared.Settings.{Settings}
use Rattle.stepform.specs.Zones.{rules}
use Rattle.stepform.specs.Steps.{step}
use Rattle.stepform.specs.Claims.{StepCounted}
use Rattle.stepform.proofs.CountedSteps.{step_parts, step_cuts}
use Rattle.runform.specs.Slices.{Slices}
use Rattle.runform.specs.Kept.{Inputs, Kept, inputs_of, blank}
use Rattle.runform.specs.Checks.{fresh_ok}
use Rattle.runform.specs.Call.{Room, fresh_by, fresh_call}
use Rattle.runform.specs.Sequence.{AsFresh, kept_after, Asked, kept_after_all, present_after_all, AllLend}
use Rattle.runform.specs.StepThenInner.{paired, step_then_inner}
use Rattle.runform.proofs.Held.{no_cut}
use Rattle.runform.proofs.StepThenInner.{fresh_is}
use Rattle.runform.proofs.StaysFresh.{ran_fresh, first_fresh}
use Rattle.runform.proofs.Demand3.{demand3_calls}

-- what a run keeps of its step
step_kept : (i : Inputs) (k : Kept) → step_then_inner i ≡ Ok k
    → (cuts : List (Carry × Cut)) × (step i.set i.axes (cores_of i.shape i.source) ≡ Ok cuts) × (keep_step i.shape 0 cuts (blank i).stepped ≡ k.stepped)
unfolding step_then_inner
step_kept i k h =
    let A = bind_ok (step i.set i.axes (cores_of i.shape i.source)) _ k h in
    let ps = paired i.shape i.weights 0 (cores_in A.0) in
    let B = bind_ok (sums ps) _ k A.2 in
    let C = bind_ok (inner ps) _ k B.2 in
    (A.0, A.1, ap (λ (x : Kept). x.stepped) (ok_inj C.2))

-- an array that keeps one value a bond has bond j's at j
kept_at : {A : Type 0} (s : Shape) (f : Carry × Cut → List A) (o : A) (cuts : List (Carry × Cut)) (l : List A) (j : ℕ) (a : A) → f no_cut ≡ [] → length cuts ≡ s.d → suc j < s.d
    → f (get_or cuts j no_cut) ≡ a ∷ [] → get_or (write (bond_size s) o s.d 0 (map f cuts) l) j o ≡ a
unfolding fit
kept_at {A} s f o cuts l j a empty all lt e =
    sym (bond_at s j (write (bond_size s) o s.d 0 (map f cuts) l) lt o)
    ∙ ap (λ (x : List A). get_or x 0 o)
    (written_slot (bond_size s) o s.d f no_cut empty cuts l j all (omega arith) ∙ ap (λ (n : ℕ). fit o n (f (get_or cuts j no_cut))) (bond_one s j lt) ∙ ap (fit o 1) e)

-- ANY RUN that is what a fresh run on the inputs i leaves
pub run_counted : (i : Inputs) (k : Kept) → AsFresh rules i k → StepCounted i.set i.axes (cores_of i.shape i.source) k.stepped.bonds
unfolding keep_step cores_of
run_counted i k F =
    let s = i.shape in
    let cs = cores_of s i.source in
    let S = step_kept i k (then_is (fresh_ok rules (Ok tt) i) (step_then_inner i) k (sym (fresh_is (Ok tt) i) ∙ ran_fresh rules i k F)).1 in
    let cuts = S.0 in
    let P = step_parts i.set i.axes cs cuts S.1 in
    let n : length cs ≡ s.d = listed_length s.d 0 (core_at s i.source) in
    let all : length cuts ≡ s.d = step_cuts i.set i.axes cs cuts S.1 ∙ n in
    let m = P.3 in
    let t0 = (blank i).stepped in
    let told = all_counted i.set.cutting P.0 cuts P.2 no_cut (keep_step s 0 cuts t0).bonds
    (λ j b lt e. kept_at s (λ (r : Carry × Cut). r.1.bonds) no_bond cuts t0.bonds j b refl all (omega arith) e) in
    subst (λ (t : Stepped). StepCounted i.set i.axes cs t.bonds) S.2 (record { cores = P.0; moves = P.1; counted = told })

-- and so of the call
pub fresh_counted : (s : Shape) (axes : List Axis) (t : Settings) (m : Slices (List Float)) (scratch : List Float) → length axes ≡ most_axes
    → let e = fresh_call s axes t m scratch in
    e.result.verdict ≡ Ok tt → StepCounted t axes (cores_of s m.source) e.result.run.bonds
fresh_counted s axes t m scratch all e =
    let i = inputs_of s axes t m in
    let room : Room = record { outputs = m.outputs; scratch = scratch } in
    run_counted i (kept_after (fresh_by rules i room)) (first_fresh rules i room all e)

-- and of the run that any calls leave, some of them refused
pub calls_counted : (s : Shape) (axes : List Axis) (t : Settings) (m : Slices (List Float)) (scratch : List Float) → length axes ≡ most_axes
    → (fresh_call s axes t m scratch).result.verdict ≡ Ok tt → (cs : List Asked)
    → let i = inputs_of s axes t m in
    let k = kept_after (fresh_call s axes t m scratch) in
    let j = present_after_all rules i k cs in
    let l = kept_after_all rules k cs in
    AllLend rules k cs → StepCounted j.set j.axes (cores_of j.shape j.source) l.stepped.bonds
calls_counted s axes t m scratch all e cs L = run_counted _ _ (demand3_calls s axes t m scratch all e cs L)
