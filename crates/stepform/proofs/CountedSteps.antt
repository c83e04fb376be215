-- The sweeps that `step` answers, and `evolve` of its last step, are those of the stated iteration, bond by bond, and no others are. Assumes nothing.
use mathlib.Core.Path.{◌≡◌, refl, sym, ap, ◌∙◌, subst}
use Prim.Native.Nat.{ℕ, zero, suc, ◌-◌, ◌≤◌, ◌<◌}
use native.Mathlib.Omega.{arith}
use mathlib.Core.Bool.{Bool}
use mathlib.Core.List.{List}
use lib.Dec.{eqb}
use lib.ListN.{length, get_or, length-map}
use lib.Ieee.{Float}
use Rattle.answers.specs.declared.Refusal.TheVariants.{Length, Number, Setting}
use Rattle.std.specs.Prelude.{Ok}
use Rattle.answers.specs.Outcome.{Answer, bind, demand}
use Rattle.answers.proofs.Outcomes.{bind_ok, ok_inj}
use Rattle.answers.proofs.Checks.{demand_is, then_is}
use Rattle.lists.specs.Walks.{state_at, every}
use Rattle.lists.proofs.Walks.{every_length}
use Rattle.lists.proofs.Tables.{get_or_tab_lem, get_d_any}
use Rattle.lists.proofs.Tests.{both}
use Rattle.shape.specs.declared.Shape.{Shape}
use Rattle.shape.specs.Limits.{most_axes, within}
use Rattle.shape.specs.Shapes.{chain_ok}
use Rattle.shape.specs.Cores.{Core, cores_of}
use Rattle.shape.proofs.Shaped.{within_is}
use Rattle.lists.proofs.Slots.{fit_length}
use Rattle.stepform.specs.declared.Axis.{Axis}
use Rattle.cutform.specs.declared.Bond.{Bond}
use Rattle.cutform.specs.declared.Cutting.{Cutting}
use Rattle.cutform.specs.Bonds.{no_bond, past_bond}
use Rattle.cutform.specs.Keeping.{bond_among}
use Rattle.cutform.specs.Rounding.{Carry, none, Cut, After, rounding, cores_in, bonds_in, after_cuts}
use Rattle.cutform.specs.Claims.{BondCounted, core_in, RoundCounted}
use Rattle.cutform.proofs.CountedBonds.{round_once}
use Rattle.cutform.specs.Call.{lengths_ok, not_below_zero, cutting_ok, ended_as, ended_by}
use Rattle.cutform.proofs.CountedCall.{left_fits, ended_fits, after_counted, ended_counted, cores_most}
use Rattle.stepform.specs.declared.Settings.{Settings}
use Rattle.stepform.specs.Zones.{zones_of, rules}
use Rattle.stepform.specs.Steps.{shift_zone, scale_zone, step, further_bond, further, steps_from, steps_of}
use Rattle.stepform.specs.Lone.{most_steps, course_ok}
use Rattle.stepform.specs.Call.{zones_finite, settings_ok, step_ok, step_over, step_call, settings_for, evolve_over, evolve_call}
use Rattle.stepform.specs.Claims.{moved, StepCounted, cores_after, LastCounted}
use Rattle.stepform.proofs.Rounds.{zones_length, step_rounds}
use Rattle.stepform.proofs.Restart.{step_length}

-- ---- one step
moved_length : (t : Settings) (xs : List Axis) (cs b : List Core) → moved t xs cs ≡ Ok b → length b ≡ length cs
unfolding moved
moved_length t xs cs b h =
    let A = bind_ok (every (shift_zone rules t) 0 (zones_of xs 0 cs)) (λ a. every (scale_zone rules t) 0 a) b h in
    every_length (scale_zone rules t) 0 A.0 b A.2 ∙ every_length (shift_zone rules t) 0 (zones_of xs 0 cs) A.0 A.1 ∙ zones_length xs 0 cs

-- the rounding behind a step
pub step_parts : (t : Settings) (xs : List Axis) (cs : List Core) (cuts : List (Carry × Cut)) → step t xs cs ≡ Ok cuts
    → (b : List Core) × (moved t xs cs ≡ Ok b) × (rounding t.cutting b ≡ Ok cuts) × (length b ≡ length cs)
unfolding moved
step_parts t xs cs cuts h =
    let shifts = every (shift_zone rules t) 0 (zones_of xs 0 cs) in
    let A = bind_ok shifts (λ a. bind (every (scale_zone rules t) 0 a) (λ b. rounding t.cutting b)) cuts (sym (step_rounds t xs cs) ∙ h) in
    let B = bind_ok (every (scale_zone rules t) 0 A.0) (λ b. rounding t.cutting b) cuts A.2 in
    let M : moved t xs cs ≡ Ok B.0 = ap (λ (o : Answer _). bind o (λ a. every (scale_zone rules t) 0 a)) A.1 ∙ B.1 in
    (B.0, M, B.2, moved_length t xs cs B.0 M)

-- ---- steps one after another
pub step_cuts : (t : Settings) (xs : List Axis) (cs : List Core) (cuts : List (Carry × Cut)) → step t xs cs ≡ Ok cuts → length cuts ≡ length cs
unfolding step
step_cuts t xs cs cuts h = step_length rules t (length cs) 0 none (zones_of xs 0 cs) cuts h ∙ zones_length xs 0 cs

after_length : (m : ℕ) (t : Settings) (xs : List Axis) (cs b : List Core) → cores_after m t xs cs ≡ Ok b → length b ≡ length cs
unfolding cores_after
after_length zero t xs cs b h = ap length (sym (ok_inj h))
after_length (suc m) t xs cs b h =
    let A = bind_ok (step t xs cs) (λ tr. cores_after m t xs (cores_in tr)) b h in
    after_length m t xs (cores_in A.0) b A.2 ∙ length-map A.0 (λ (r : Carry × Cut). r.1.core) ∙ step_cuts t xs cs A.0 A.1

-- the last step of m and one: the cores before it, its cuts, and what was said of the bonds before it
record LastStep (m : ℕ) (t : Settings) (xs : List Axis) (cs : List Core) (a : After) : Type 0 where
  cores : List Core
  before : cores_after m t xs cs ≡ Ok cores
  cuts : List (Carry × Cut)
  made : step t xs cores ≡ Ok cuts
  said : List Bond
  bonds : a.bonds ≡ further said (after_cuts cuts).bonds

last_step : (m : ℕ) (t : Settings) (xs : List Axis) (a b : After) → steps_from (suc m) t xs a ≡ Ok b → LastStep m t xs a.cores b
unfolding steps_from cores_after
last_step zero t xs a b h =
    let A = bind_ok (step t xs a.cores) _ b h in
    record { cores = a.cores; before = refl; cuts = A.0; made = A.1; said = a.bonds; bonds = ap (λ (x : After). x.bonds) (sym (ok_inj A.2)) }
last_step (suc m) t xs a b h =
    let A = bind_ok (step t xs a.cores) _ b h in
    let L = last_step m t xs _ b A.2 in
    record {
      cores = L.cores;
      before = ap (λ (o : Answer (List (Carry × Cut))). bind o (λ tr. cores_after m t xs (cores_in tr))) A.1 ∙ L.before;
      cuts = L.cuts;
      made = L.made;
      said = L.said;
      bonds = L.bonds;
    }

-- a further step's sweeps are its own, whatever was dropped before it
further_counted : (cutting : Cutting) (cs : List Core) (said bonds : List Bond) → length cs ≤ most_axes → length bonds ≡ most_axes → RoundCounted cutting cs bonds
    → RoundCounted cutting cs (further said bonds)
unfolding further further_bond
further_counted cutting cs said bonds most long R = record {
  cuts = R.cuts;
  ran = R.ran;
  bond = λ k lt.
      let B = R.bond k lt in
      let e : get_or (further said bonds) k no_bond ≡ further_bond (bond_among said k) (get_or bonds k no_bond) =
      get_or_tab_lem most_axes (λ (j : ℕ). further_bond (bond_among said j) (bond_among bonds j)) k no_bond (omega arith)
      ∙ ap (further_bond (bond_among said k)) (get_d_any bonds k past_bond no_bond (omega arith)) in
      subst (BondCounted cutting.mode k (state_at none R.cuts k) (core_in cs k)) (sym e) (record { core = B.core; taken = B.taken; end = B.end; counted = B.counted });
}

-- a course of no steps is not accepted
some_steps : (lone : Bool) (final : Float) (steps : ℕ) (cutting : Cutting) (t : Settings) (s : Shape) (count : ℕ) (xs : List Axis) (chain : List Float) (scratch : ℕ)
    → step_ok lone (course_ok final steps cutting) t s count xs chain scratch ≡ Ok tt → 1 ≤ steps
unfolding step_ok settings_ok course_ok
some_steps lone final steps cutting t s count xs chain scratch h =
    let a = then_is (chain_ok s) _ tt h in
    let b = then_is (demand (eqb count s.d) (Length 0)) _ tt a.1 in
    let c = then_is (lengths_ok s 1 (length chain) 2 scratch) _ tt b.1 in
    let d = then_is (demand lone (Number 0)) _ tt c.1 in
    let f = then_is (zones_finite s xs chain) _ tt d.1 in
    let g = demand_is _ (Setting 0) (then_is (demand (course_ok final steps cutting) (Setting 0)) _ tt f.1).0 in
    (within_is most_steps steps (both (within most_steps steps) (cutting_ok cutting) (both (not_below_zero final) _ g).1).0).0

-- ---- the calls
module _ (s : Shape) (chain scratch : List Float) where
  -- a call that ends by what its last step left
  by_step : (t : Settings) (xs : List Axis) (cs : List Core) (o : Answer (List (Carry × Cut))) (cuts : List (Carry × Cut)) → length cs ≤ most_axes → o ≡ Ok cuts → step t xs cs ≡ Ok cuts
      → StepCounted t xs cs (ended_by s chain scratch o).result.bonds
  by_step t xs cs o cuts most e h =
      let P = step_parts t xs cs cuts h in
      let n = P.3 in
      record { cores = P.0; moves = P.1; counted = ended_counted s chain scratch t.cutting P.0 o cuts (omega arith) e P.2 }

  pub step_counted : (t : Settings) (xs : List Axis) → (step_call t s xs chain scratch).result.verdict ≡ Ok tt
      → StepCounted t xs (cores_of s chain) (step_call t s xs chain scratch).result.bonds
  unfolding step_over step_ok
  step_counted t xs e =
      let A = ended_fits s chain scratch _ e in
      let B = then_is _ (step t xs (cores_of s chain)) A.0 A.1 in
      by_step t xs (cores_of s chain) _ A.0 (cores_most s chain (then_is (chain_ok s) _ tt B.0).0) A.1 B.1

  -- of the last of its steps
  pub evolve_counted : (final : Float) (steps : ℕ) (c : Float) (cutting : Cutting) (xs : List Axis)
      → (evolve_call final steps c cutting s xs chain scratch).result.verdict ≡ Ok tt
      → LastCounted (steps - 1) (settings_for final steps c cutting) xs (cores_of s chain) (evolve_call final steps c cutting s xs chain scratch).result.bonds
  unfolding evolve_over step_ok steps_of ended_as
  evolve_counted final steps c cutting xs e =
      let t = settings_for final steps c cutting in
      let A = left_fits s chain scratch _ e in
      let B = then_is _ (steps_of steps t xs (cores_of s chain)) A.0 A.1 in
      let one = some_steps _ final steps cutting t s (length xs) xs chain (length scratch) B.0 in
      let more : steps ≡ suc (steps - 1) = omega arith in
      let L = last_step (steps - 1) t xs _ A.0 (ap (λ (m : ℕ). steps_of m t xs (cores_of s chain)) (sym more) ∙ B.1) in
      let n = after_length (steps - 1) t xs (cores_of s chain) L.cores L.before in
      let most = cores_most s chain (then_is (chain_ok s) _ tt B.0).0 in
      let P = step_parts t xs L.cores L.cuts L.made in
      let few = P.3 in
      let R = after_counted t.cutting P.0 L.cuts (omega arith) P.2 in
      let F = further_counted t.cutting P.0 L.said (after_cuts L.cuts).bonds (omega arith) (fit_length no_bond most_axes (bonds_in L.cuts)) R in
      let E : (evolve_call final steps c cutting s xs chain scratch).result.bonds ≡ further L.said (after_cuts L.cuts).bonds =
      ap (λ (o : Answer After). (ended_as s chain scratch o).result.bonds) A.1 ∙ L.bonds in
      record { cores = L.cores; before = L.before; last = subst (StepCounted t xs L.cores) (sym E) (record { cores = P.0; moves = P.1; counted = F }) }

-- ---- no others are
abbrev Same : List Bond → List Bond → ℕ → Type 0
Same a b k = ((get_or a k no_bond).sweeps ≡ (get_or b k no_bond).sweeps) × ((get_or a k no_bond).settled ≡ (get_or b k no_bond).settled)

pub step_once : {t : Settings} {xs : List Axis} {cs : List Core} {a b : List Bond} → StepCounted t xs cs a → StepCounted t xs cs b
    → (k : ℕ) → suc k < length cs → Same a b k
step_once {t} {xs} {cs} {b = b} P Q k lt =
    let e : Q.cores ≡ P.cores = ok_inj (sym Q.moves ∙ P.moves) in
    let l = moved_length t xs cs P.cores P.moves in
    round_once P.counted (subst (λ (c : List Core). RoundCounted t.cutting c b) e Q.counted) k (omega arith)

pub last_once : {j : ℕ} {t : Settings} {xs : List Axis} {cs : List Core} {a b : List Bond} → LastCounted j t xs cs a → LastCounted j t xs cs b
    → (k : ℕ) → suc k < length cs → Same a b k
last_once {j} {t} {xs} {cs} {b = b} P Q k lt =
    let e : Q.cores ≡ P.cores = ok_inj (sym Q.before ∙ P.before) in
    let l = after_length j t xs cs P.cores P.before in
    step_once P.last (subst (λ (c : List Core). StepCounted t xs c b) e Q.last) k (omega arith)
