-- A fresh run taken apart: what its checks say of the inputs, and what its two walks left. Assumes nothing of the rules.
use Rattle.std.specs.Prelude.{Ok}
use mathlib.Core.Path.{◌≡◌, refl, ap, ◌∙◌}
use Prim.Native.Nat.{ℕ, ◌<◌}
use native.Mathlib.Omega.{arith}
use mathlib.Core.Bool.{true, ◌&&◌}
use mathlib.Core.List.{List}
use lib.ListN.{length}
use lib.Ieee.{Float}
use Rattle.answers.specs.declared.Refusal.TheVariants.{Number, Setting, Reach}
use Rattle.answers.specs.Outcome.{Check}
use Rattle.answers.proofs.Outcomes.{bind_ok, ok_inj}
use Rattle.answers.proofs.Checks.{demand_is, then_is, each_is}
use Rattle.lists.specs.Walks.{walk}
use Rattle.lists.specs.Floats.{all_finite}
use Rattle.lists.proofs.Tests.{both}
use Rattle.shape.specs.Shapes.{chain_ok, entries_of, all_points}
use Rattle.shape.specs.Cores.{points_at}
use Rattle.stepform.specs.Axes.{axis_finite, axis_ok, axis_at}
use Rattle.cutform.specs.Rounding.{Carry, none, Cut}
use Rattle.cutform.specs.Call.{core_finite}
use Rattle.sumform.specs.Product.{start_sums}
use Rattle.stepform.specs.Zones.{Rules}
use Rattle.stepform.specs.Steps.{step_from}
use Rattle.runform.specs.Kept.{Inputs, Summed, Kept, running, blank, bare, zones_from, carry_at, sums_at, weighed_from}
use Rattle.cutform.specs.Keeping.{Stepped, keep_step}
use Rattle.runform.specs.Work.{keep_sums, sum_zone, restep, resum, sum_from, work_from}
use Rattle.stepform.specs.Lone.{lone_finite, lone_ok}
use Rattle.runform.specs.Checks.{inputs_lent, made_finite, zone_finite, in_reach_at, made_ok, fresh_ok, fresh_run}
use Rattle.runform.proofs.InRow.{lent_passes, lent_is}

-- ---- the checks
pub record Passed (R : Rules) (i : Inputs) : Type 0 where
  pub shape : chain_ok i.shape ≡ Ok tt
  pub lent : inputs_lent i ≡ Ok tt
  pub lone : lone_finite i.set ≡ true
  pub fine : (k : ℕ) → k < i.shape.d → zone_finite i k ≡ true
  pub mild : lone_ok i.set ≡ true
  pub axes : (k : ℕ) → k < i.shape.d → axis_ok (axis_at i.axes k) ≡ true
  pub reach : (k : ℕ) → k < i.shape.d → in_reach_at R i k ≡ true

-- they say this, and that the call had its room
pub passed : (R : Rules) (room : Check) (i : Inputs) → fresh_ok R room i ≡ Ok tt → Passed R i × (room ≡ Ok tt)
unfolding fresh_ok made_ok
passed R room i e =
    let a = then_is _ _ tt e in
    let b = then_is _ _ tt a.1 in
    let m = then_is _ _ tt b.1 in
    let h = then_is _ _ tt m.1 in
    let c = then_is _ _ tt h.0 in
    let f = then_is _ _ tt c.1 in
    let g = then_is _ _ tt f.1 in
    let d = i.shape.d in (
      record {
        shape = a.0;
        lent = b.0;
        lone = demand_is (lone_finite i.set) (Number 0) c.0;
        fine = λ k lt. each_is Number (zone_finite i) d 0 f.0 k (omega arith) (omega arith);
        mild = demand_is (lone_ok i.set) (Setting 0) g.0;
        axes = λ k lt. each_is Setting (λ (j : ℕ). axis_ok (axis_at i.axes j)) d 0 g.1 k (omega arith) (omega arith);
        reach = λ k lt. each_is Reach (in_reach_at R i) d 0 h.1 k (omega arith) (omega arith);
      },
      m.0,
    )

-- refusal 5 of source and weights, as lengths and back
pub record Lent (i : Inputs) : Type 0 where
  pub source : length i.source ≡ entries_of i.shape
  pub weights : length i.weights ≡ all_points i.shape

pub inputs_are : (i : Inputs) → inputs_lent i ≡ Ok tt → Lent i
inputs_are i e = let l = lent_is 0 _ _ refl e in record { source = cc; weights = cc }

pub inputs_pass : (i : Inputs) → Lent i → inputs_lent i ≡ Ok tt
inputs_pass i L = lent_passes 0 _ _ cc

-- refusal 6 of a zone, part by part
pub record FineZone (i : Inputs) (k : ℕ) : Type 0 where
  pub core : core_finite i.shape i.source k ≡ true
  pub axis : axis_finite (axis_at i.axes k) ≡ true
  pub weights : all_finite (points_at i.shape i.weights k) ≡ true

pub fine_zone : (i : Inputs) (k : ℕ) → zone_finite i k ≡ true → FineZone i k
unfolding made_finite
fine_zone i k e =
    let a = both (core_finite i.shape i.source k) (axis_finite (axis_at i.axes k) && all_finite (points_at i.shape i.weights k)) e in
    let b = both (axis_finite (axis_at i.axes k)) (all_finite (points_at i.shape i.weights k)) a.1 in
    record { core = a.0; axis = b.0; weights = b.1 }

-- ---- the walks
-- what a step of all zones leaves on a run that kept nothing
abbrev pub stepped_by : Inputs → List (Carry × Cut) → Stepped
stepped_by i tr = keep_step i.shape 0 tr (blank i).stepped

abbrev pub summed_by : Inputs → List (List Float × Unit {0}) → Summed
summed_by i e = keep_sums i.shape 0 e (blank i).summed

-- a step that was not refused, on inputs that pass the checks
pub record StepTrace (R : Rules) (i : Inputs) : Type 0 where
  pub ok : Passed R i
  pub cuts : List (Carry × Cut)
  pub ran : step_from R i.set i.shape.d 0 none (zones_from i 0) ≡ Ok cuts

-- and the sums over its cores
pub record Trace (R : Rules) (i : Inputs) : Type 0 where
  pub step : StepTrace R i
  pub sums : List (List Float × Unit {0})
  pub ran : walk (sum_zone R) 0 start_sums (weighed_from i (stepped_by i step.cuts) 0) ≡ Ok sums

abbrev pub kept_by : {R : Rules} {i : Inputs} → Trace R i → Kept
kept_by {R} {i} T = running i (stepped_by i T.step.cuts) (summed_by i T.sums)

pub traced : (R : Rules) (i : Inputs) (k : Kept) → fresh_run R (Ok tt) i ≡ Ok k → (T : Trace R i) × (kept_by T ≡ k)
unfolding fresh_run work_from sum_from restep resum blank bare carry_at sums_at
traced R i k e =
    let t0 = (blank i).stepped in
    let u0 = (blank i).summed in
    let A = then_is (fresh_ok R (Ok tt) i) (work_from R (blank i) 0) k e in
    let B = bind_ok (restep R i t0 0) (λ t. sum_from R (running i t u0) 0) k A.1 in
    let C = bind_ok (step_from R i.set i.shape.d 0 none (zones_from i 0)) (λ tr. Ok (stepped_by i tr)) B.0 B.1 in
    let t = stepped_by i C.0 in
    let h : sum_from R (running i t u0) 0 ≡ Ok k = ap (λ (x : Stepped). sum_from R (running i x u0) 0) (ok_inj C.2) ∙ B.2 in
    let D = bind_ok (resum R i t u0 0) (λ u. Ok (running i t u)) k h in
    let E = bind_ok (walk (sum_zone R) 0 start_sums (weighed_from i t 0)) (λ e. Ok (summed_by i e)) D.0 D.1 in
    (record { step = record { ok = (passed R (Ok tt) i A.0).0; cuts = C.0; ran = C.1 }; sums = E.0; ran = E.1 }, ap (λ (u : Summed). running i t u) (ok_inj E.2) ∙ ok_inj D.2)
