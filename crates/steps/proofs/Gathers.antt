-- Records by value stand for those that were lent: what is beyond the axes is never asked for, so checks and steps over them are the same. Assumes nothing.
use Rattle.std.specs.Prelude.{Ok}
use mathlib.Core.Path.{◌≡◌, refl, ap, ◌∙◌}
use Prim.Native.Nat.{ℕ, zero, suc, ◌+◌, ◌≤◌, ◌<◌}
use native.Mathlib.Omega.{arith}
use mathlib.Core.Bool.{Bool, true, ◌&&◌}
use mathlib.Core.List.{List, [], ◌∷◌}
use lib.Dec.{eqb}
use lib.ListN.{length, length-map}
use lib.Ieee.{Float}
use Rattle.answers.specs.declared.Refusal.TheVariants.{Length, Number, Setting, Reach}
use Rattle.answers.specs.Outcome.{bind, Check, ◌then◌, demand}
use Rattle.answers.proofs.Outcomes.{bind_cong}
use Rattle.answers.proofs.Checks.{then_is, then_on, each_same}
use Rattle.lists.specs.Lists.{listed}
use Rattle.lists.proofs.Tables.{length_tab}
use Rattle.shape.specs.declared.Shape.{Shape}
use Rattle.shape.specs.Limits.{most_axes}
use Rattle.shape.specs.Shapes.{points_of, chain_ok}
use Rattle.shape.specs.Cores.{Core, core_at, cores_of}
use Rattle.shape.proofs.Shaped.{shaped}
use Rattle.stepform.specs.declared.Axis.{Axis}
use Rattle.stepform.specs.Axes.{axis_finite, axis_ok, axis_at, gathered}
use Rattle.axes.proofs.Gathered.{gathered_at}
use Rattle.cutform.specs.Call.{lengths_ok, core_finite, ended_as, ended_by}
use Rattle.cutform.specs.Rounding.{Carry, Cut, none, cores_in, After, after_cuts}
use Rattle.cutform.specs.declared.Cutting.{Cutting}
use Rattle.stepform.specs.declared.Settings.{Settings}
use Rattle.stepform.specs.Zones.{Zone, zone, zones_of, rules}
use Rattle.stepform.specs.Steps.{step_from, step, further, steps_from, steps_of}
use Rattle.stepform.specs.Lone.{lone_finite, lone_ok, course_finite, course_ok}
use Rattle.stepform.specs.Call.{reaches_at, axis_reaches, zones_finite, settings_ok, step_ok, step_over, step_call, settings_for, evolve_over, evolve_call}
use Rattle.stepform.proofs.Restart.{step_length}
use Rattle.stepform.proofs.Rounds.{zones_length}

-- a step leaves as many cores as it found
pub stepped_count : (t : Settings) (xs : List Axis) (cs : List Core) (tr : List (Carry × Cut)) → step t xs cs ≡ Ok tr → length (cores_in tr) ≡ length cs
unfolding step
stepped_count t xs cs tr e = length-map tr (λ (r : Carry × Cut). r.1.core) ∙ step_length rules t (length cs) 0 none (zones_of xs 0 cs) tr e ∙ zones_length xs 0 cs

module _ (xs : List Axis) where
  -- ---- the checks
  module _ (t : Settings) (s : Shape) (chain : List Float) (most : s.d ≤ most_axes) where
    same : (k : ℕ) → k < s.d → axis_at (gathered xs) k ≡ axis_at xs k
    same k l = gathered_at xs k (omega arith)

    finite_same : zones_finite s (gathered xs) chain ≡ zones_finite s xs chain
    unfolding zones_finite
    finite_same =
        each_same Number (λ (k : ℕ). core_finite s chain k && axis_finite (axis_at (gathered xs) k)) (λ (k : ℕ). core_finite s chain k && axis_finite (axis_at xs k)) s.d 0
        (λ k a b. ap (λ (x : Axis). core_finite s chain k && axis_finite x) (same k (omega arith)))

    settings_same : (mild : Bool) → settings_ok mild t s (gathered xs) ≡ settings_ok mild t s xs
    unfolding settings_ok reaches_at
    settings_same mild =
        then_on (demand mild (Setting 0)) (demand mild (Setting 0)) _ _ refl
        (then_on _ _ _ _
        (each_same Setting (λ (k : ℕ). axis_ok (axis_at (gathered xs) k)) (λ (k : ℕ). axis_ok (axis_at xs k)) s.d 0 (λ k a b. ap axis_ok (same k (omega arith))))
        (each_same Reach (axis_reaches t s (gathered xs)) (axis_reaches t s xs) s.d 0
        (λ k a b. ap (λ (x : Axis). rules.reaches t x (points_of s k)) (same k (omega arith)))))

  pub ok_same : (lone mild : Bool) (t : Settings) (s : Shape) (n : ℕ) (chain : List Float) (m : ℕ)
      → step_ok lone mild t s n (gathered xs) chain m ≡ step_ok lone mild t s n xs chain m
  unfolding step_ok
  ok_same lone mild t s n chain m =
      bind_cong (chain_ok s) _ _ (λ a e.
      let d = (shaped s (λ (k : ℕ). true) e).most in
      then_on (demand (eqb n s.d) (Length 0)) _ _ _ refl
      (then_on (lengths_ok s 1 (length chain) 2 m) _ _ _ refl
      (then_on (demand lone (Number 0)) _ _ _ refl
      (then_on _ _ _ _ (finite_same t s chain d) (settings_same t s chain d mild)))))

  -- ---- the steps
  zones_same : (k : ℕ) (cs : List Core) → k + length cs ≤ most_axes → zones_of (gathered xs) k cs ≡ zones_of xs k cs
  unfolding zones_of
  zones_same k [] h = refl
  zones_same k (c ∷ cs) h = rw (gathered_at xs k (omega arith), zones_same (suc k) cs (omega arith))

  module _ (t : Settings) where
    pub step_same : (cs : List Core) → length cs ≤ most_axes → step t (gathered xs) cs ≡ step t xs cs
    unfolding step
    step_same cs h = ap (step_from rules t (length cs) 0 none) (zones_same 0 cs (omega arith))

    further_same : (m : ℕ) (a : After) → length a.cores ≤ most_axes → steps_from m t (gathered xs) a ≡ steps_from m t xs a
    unfolding steps_from
    further_same zero a h = refl
    further_same (suc m) a h =
        ap (λ o. bind o (λ tr. steps_from m t (gathered xs) (record { cores = cores_in tr; bonds = further a.bonds (after_cuts tr).bonds }))) (step_same a.cores h)
        ∙ bind_cong (step t xs a.cores) _ _ (λ tr e. further_same m _ (omega (arith, stepped_count t xs a.cores tr e)))

    pub steps_same : (m : ℕ) (cs : List Core) → length cs ≤ most_axes → steps_of m t (gathered xs) cs ≡ steps_of m t xs cs
    unfolding steps_of
    steps_same m cs h = further_same m _ h

-- zones of cores in a row
pub zones_listed : (xs : List Axis) (f : ℕ → Core) (m k : ℕ) → zones_of xs k (listed m k f) ≡ listed m k (λ (j : ℕ). zone (f j) (axis_at xs j))
unfolding zones_of listed
zones_listed xs f zero k = refl
zones_listed xs f (suc m) k = ap (λ (l : List Zone). zone (f k) (axis_at xs k) ∷ l) (zones_listed xs f m (suc k))

-- ---- the calls
cores_few : (s : Shape) (chain : List Float) → chain_ok s ≡ Ok tt → length (cores_of s chain) ≤ most_axes
unfolding cores_of
cores_few s chain e = omega (arith, length_tab s.d (core_at s chain), (shaped s (λ (k : ℕ). true) e).most)

-- a shape that passed all checks
ok_chain : (lone mild : Bool) (t : Settings) (s : Shape) (n : ℕ) (xs : List Axis) (chain : List Float) (m : ℕ) → step_ok lone mild t s n xs chain m ≡ Ok tt → chain_ok s ≡ Ok tt
unfolding step_ok
ok_chain lone mild t s n xs chain m e = (then_is _ _ tt e).0

pub step_over_lem : (t : Settings) (s : Shape) (xs : List Axis) (chain scratch : List Float) → step_over t s (length xs) (gathered xs) chain scratch ≡ step_call t s xs chain scratch
unfolding step_over
step_over_lem t s xs chain scratch =
    let n = length xs in
    let m = length scratch in
    ap (ended_by s chain scratch)
    (ap (λ (c : Check). c then step t (gathered xs) (cores_of s chain)) (ok_same xs (lone_finite t) (lone_ok t) t s n chain m)
    ∙ bind_cong (step_ok (lone_finite t) (lone_ok t) t s n xs chain m) _ _
    (λ a e. step_same xs t (cores_of s chain) (cores_few s chain (ok_chain (lone_finite t) (lone_ok t) t s n xs chain m e))))

pub evolve_over_lem : (final : Float) (steps : ℕ) (c : Float) (cutting : Cutting) (s : Shape) (xs : List Axis) (chain scratch : List Float)
    → evolve_over final steps c cutting s (length xs) (gathered xs) chain scratch ≡ evolve_call final steps c cutting s xs chain scratch
unfolding evolve_over
evolve_over_lem final steps c cutting s xs chain scratch =
    let t = settings_for final steps c cutting in
    let n = length xs in
    let m = length scratch in
    let lone = course_finite final c cutting in
    let mild = course_ok final steps cutting in
    ap (ended_as s chain scratch)
    (ap (λ (k : Check). k then steps_of steps t (gathered xs) (cores_of s chain)) (ok_same xs lone mild t s n chain m)
    ∙ bind_cong (step_ok lone mild t s n xs chain m) _ _
    (λ a e. steps_same xs t steps (cores_of s chain) (cores_few s chain (ok_chain lone mild t s n xs chain m e))))
