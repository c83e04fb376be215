-- THE RESTART, in memory: on inputs that differ from those of a fresh run at zone z and behind it only, the work from z on, from the carry and the sum
-- that the run holds there, leaves what the work from zone 0 on a blank run leaves, or refuses alike. Of the rules only `Sound` is used.
use Rattle.std.specs.Prelude.{Ok}
use mathlib.Core.Path.{◌≡◌, refl, sym, ap, ◌∙◌}
use Prim.Native.Nat.{ℕ, zero, suc, ◌+◌, ◌-◌, ◌≤◌, ◌<◌}
use native.Mathlib.Nat.{zero-add, sub-zero}
use native.Mathlib.Omega.{arith}
use mathlib.Core.List.{List, ◌++◌}
use lib.ListN.{length, take, replicate, length-replicate}
use lib.Ieee.{Float}
use Rattle.numbers.specs.Arithmetic.{zero64}
use Rattle.answers.specs.Outcome.{Answer, bind}
use Rattle.answers.proofs.Outcomes.{bind_assoc, bind_cong, bind_ok, ok_inj}
use Rattle.lists.specs.Lists.{listed}
use Rattle.lists.specs.Slots.{slot}
use Rattle.lists.specs.Walks.{walk, state_at}
use Rattle.lists.proofs.Tables.{listed_length, listed_same, listed_split}
use Rattle.lists.proofs.Walks.{walk_restart}
use Rattle.lists.proofs.Written.{written_again, written_length, written_from}
use Rattle.shape.specs.declared.Shape.{Shape}
use Rattle.shape.specs.Limits.{most_axes}
use Rattle.shape.specs.Shapes.{core_size}
use Rattle.shape.specs.Cores.{Core, points_at}
use Rattle.stepform.specs.declared.Axis.{Axis}
use Rattle.cutform.specs.Bonds.{no_bond}
use Rattle.cutform.specs.Rounding.{Carry, none, Cut, numbers_in}
use Rattle.sumform.specs.Product.{start_sums}
use Rattle.stepform.specs.Zones.{Zone, Rules}
use Rattle.stepform.specs.Steps.{step_from}
use Rattle.stepform.proofs.Restart.{step_restart}
use Rattle.sumform.specs.Sums.{sum_size}
use Rattle.runform.specs.Kept.{Inputs, Summed, Kept, running, bare, blank, zone_at, zones_from, kept_core, carry_at, sums_at, weighed_at, weighed_from, held_core}
use Rattle.cutform.specs.Keeping.{Stepped, bond_size, carry_size, keep_step}
use Rattle.runform.specs.Work.{keep_sums, sum_zone, restep, resum, sum_from, work_from}
use Rattle.runform.proofs.Sound.{Sound}
use Rattle.runform.proofs.Trace.{StepTrace, Trace, stepped_by, summed_by}
use Rattle.runform.proofs.Held.{sizes, cuts_length, sums_length, carry_read, sums_read}
use Rattle.runform.proofs.Before.{bond_count, Roomy, core_before}

-- ---- what was kept, and what is kept anew from z on
pub keep_again : (s : Shape) (z : ℕ) (tr c : List (Carry × Cut)) (t : Stepped) → length tr ≡ s.d → z < s.d → keep_step s z c (keep_step s 0 tr t) ≡ keep_step s 0 (take z tr ++ c) t
unfolding keep_step
keep_again s z tr c t e lt = let le : z ≤ s.d = omega arith in search (written_again, e, le)

pub sums_again : (s : Shape) (z : ℕ) (tr c : List (List Float × Unit {0})) (u : Summed) → length tr ≡ s.d → z < s.d → keep_sums s z c (keep_sums s 0 tr u) ≡ keep_sums s 0 (take z tr ++ c) u
unfolding keep_sums
sums_again s z tr c u e lt = let le : z ≤ s.d = omega arith in rw written_again

-- ---- a fresh run has room for its zones
pub step_roomy : (R : Rules) (S : Sound R) (i : Inputs) (P : StepTrace R i) → Roomy i.shape (stepped_by i P.cuts)
unfolding keep_step blank bare
step_roomy R S i P =
    let s = i.shape in
    let len = cuts_length R S i P in
    let all : 0 + length P.cuts ≡ s.d = zero-add (length P.cuts) ∙ len in
    let one = (sizes R S i P).least in
    let most = (sizes R S i P).most in
    let count = bond_count s one in
    let n = length-replicate most_axes no_bond in
    let bonds = (written_from (bond_size s) no_bond s.d (λ (r : Carry × Cut). r.1.bonds) 0 P.cuts (replicate most_axes no_bond) all (omega arith)).long in
    let chain = written_length (core_size s) zero64 s.d (λ (r : Carry × Cut). r.1.core.entries) P.cuts len in
    let carries = written_length (carry_size s) zero64 s.d (λ (r : Carry × Cut). numbers_in r.0) P.cuts len in
    record { bonds = omega arith; chain = omega arith; carries = omega arith }

-- ---- the inputs i, with other axis records, numbers and weights
abbrev pub changed : Inputs → List Axis → List Float → List Float → Inputs
changed i axes source weights = record { shape = i.shape; axes = axes; set = i.set; source = source; weights = weights }

all_from : {A : Type 0} (d z : ℕ) (f g : ℕ → A) → z < d → ((k : ℕ) → k < z → f k ≡ g k) → listed (d - 0) 0 f ≡ take z (listed (d - 0) 0 g) ++ listed (d - z) z f
all_from d z f g lt agree =
    ap (λ (m : ℕ). listed m 0 f) (sub-zero d) ∙ listed_split d z f g (omega arith) agree ∙ ap (λ (m : ℕ). take z (listed m 0 g) ++ listed (d - z) z f) (sym (sub-zero d))

module _ (R : Rules) (S : Sound R) (i : Inputs) (T : Trace R i) (z : ℕ) (inside : z < i.shape.d) (axes : List Axis) (source weights : List Float) where
  abbrev j : Inputs
  j = changed i axes source weights

  abbrev s : Shape
  s = i.shape

  abbrev t : Stepped
  t = stepped_by i T.step.cuts

  abbrev u : Summed
  u = summed_by i T.sums

  -- the step
  restep_same : ((k : ℕ) → k < z → zone_at j k ≡ zone_at i k) → restep R j (blank i).stepped 0 ≡ restep R j t z
  unfolding restep carry_at
  restep_same agree =
      let d = i.shape.d in
      let len : length (zones_from i 0) ≡ d = listed_length (d - 0) 0 (zone_at i) ∙ sub-zero d in
      let keep : List (Carry × Cut) → Answer Stepped = λ c. Ok (keep_step s 0 c (blank i).stepped) in
      ap (λ (l : List Zone). bind (step_from R i.set d 0 none l) keep) (all_from d z (zone_at j) (zone_at i) inside agree)
      ∙ ap (λ (o : Answer (List (Carry × Cut))). bind o keep) (step_restart R i.set d none (zones_from i 0) T.step.cuts T.step.ran z (omega arith) (zones_from j z))
      ∙ bind_assoc (step_from R i.set d z (state_at none T.step.cuts z) (zones_from j z)) (λ c. Ok (take z T.step.cuts ++ c)) keep
      ∙ bind_cong (step_from R i.set d z (state_at none T.step.cuts z) (zones_from j z)) (λ c. keep (take z T.step.cuts ++ c)) (λ c. Ok (keep_step s z c t))
      (λ c _. ap Ok (sym (keep_again s z T.step.cuts c (blank i).stepped (cuts_length R S i T.step) inside)))
      ∙ ap (λ (b : Carry). bind (step_from R i.set d z b (zones_from j z)) (λ c. Ok (keep_step s z c t))) (sym (carry_read R S i T.step z inside))

  -- the sums left of y over other cores that agree before it
  sums_agree : (t' : Stepped) (y : ℕ) → ((k : ℕ) → k < y → weighed_at j t' k ≡ weighed_at i t k) → sums_at s t u y ≡ sums_at s t' u y
  unfolding sums_at weighed_at held_core
  sums_agree t' zero agree = refl
  sums_agree t' (suc k) agree = ap (λ (r : ℕ). take r (slot (sum_size s) k u.sums)) (sym (ap (λ (p : Core × List Float). p.0.rr) (agree k (omega arith))))

  -- the sums, over any cores that agree before z
  resum_same : (t' : Stepped) → ((k : ℕ) → k < z → weighed_at j t' k ≡ weighed_at i t k) → resum R j t' (blank i).summed 0 ≡ resum R j t' u z
  unfolding resum sums_at
  resum_same t' agree =
      let d = i.shape.d in
      let len : length (weighed_from i t 0) ≡ d = listed_length (d - 0) 0 (weighed_at i t) ∙ sub-zero d in
      let keep : List (List Float × Unit {0}) → Answer Summed = λ c. Ok (keep_sums s 0 c (blank i).summed) in
      ap (λ (l : List (Core × List Float)). bind (walk (sum_zone R) 0 start_sums l) keep) (all_from d z (weighed_at j t') (weighed_at i t) inside agree)
      ∙ ap (λ (o : Answer (List (List Float × Unit {0}))). bind o keep) (walk_restart (sum_zone R) 0 start_sums (weighed_from i t 0) T.sums T.ran z (omega arith) (weighed_from j t' z))
      ∙ ap (λ (k : ℕ). bind (bind (walk (sum_zone R) k (state_at start_sums T.sums z) (weighed_from j t' z)) (λ c. Ok (take z T.sums ++ c))) keep) (zero-add z)
      ∙ bind_assoc (walk (sum_zone R) z (state_at start_sums T.sums z) (weighed_from j t' z)) (λ c. Ok (take z T.sums ++ c)) keep
      ∙ bind_cong (walk (sum_zone R) z (state_at start_sums T.sums z) (weighed_from j t' z)) (λ c. keep (take z T.sums ++ c)) (λ c. Ok (keep_sums s z c u))
      (λ c _. ap Ok (sym (sums_again s z T.sums c (blank i).summed (sums_length R S i T) inside)))
      ∙ ap (λ (e : List Float). bind (walk (sum_zone R) z e (weighed_from j t' z)) (λ c. Ok (keep_sums s z c u))) (sym (sums_read R S i T z (omega arith)) ∙ sums_agree t' z agree)

  weights_agree : (t' : Stepped) (k : ℕ) → kept_core s t' k ≡ kept_core s t k → points_at s weights k ≡ points_at s i.weights k → weighed_at j t' k ≡ weighed_at i t k
  unfolding weighed_at
  weights_agree t' k c w = ap (λ (x : Core). (x, points_at s weights k)) c ∙ ap (λ (x : List Float). (kept_core s t k, x)) w

  before : ((k : ℕ) → k < z → points_at s weights k ≡ points_at s i.weights k) → (t' : Stepped) → restep R j t z ≡ Ok t' → (k : ℕ) → k < z → weighed_at j t' k ≡ weighed_at i t k
  unfolding restep
  before even t' e k lt =
      let A = bind_ok (step_from R i.set i.shape.d z (carry_at s t z) (zones_from j z)) (λ c. Ok (keep_step s z c t)) t' e in
      weights_agree t' k (ap (λ (x : Stepped). kept_core s x k) (sym (ok_inj A.2)) ∙ core_before s t (step_roomy R S i T.step) z inside A.0 k lt) (even k lt)

  -- a core or an axis record anew: step and sums from z on
  pub work_same : ((k : ℕ) → k < z → zone_at j k ≡ zone_at i k) → ((k : ℕ) → k < z → points_at s weights k ≡ points_at s i.weights k)
      → work_from R (blank j) 0 ≡ work_from R (running j t u) z
  unfolding work_from sum_from blank bare
  work_same agree even =
      let sums : Summed → ℕ → Stepped → Answer Kept = λ v y t'. bind (resum R j t' v y) (λ u'. Ok (running j t' u')) in
      ap (λ (o : Answer Stepped). bind o (sums (blank i).summed 0)) (restep_same agree)
      ∙ bind_cong (restep R j t z) (sums (blank i).summed 0) (sums u z) (λ t' e. ap (λ (o : Answer Summed). bind o (λ u'. Ok (running j t' u'))) (resum_same t' (before even t' e)))

  -- the step over the same zones leaves the run's own cores
  stepped_same : ((k : ℕ) → zone_at j k ≡ zone_at i k) → restep R j (blank i).stepped 0 ≡ Ok t
  unfolding restep carry_at
  stepped_same agree =
      ap (λ (l : List Zone). bind (step_from R i.set i.shape.d 0 none l) (λ c. Ok (stepped_by i c))) (listed_same (i.shape.d - 0) 0 (zone_at j) (zone_at i) (λ k p q. agree k))
      ∙ ap (λ (o : Answer (List (Carry × Cut))). bind o (λ c. Ok (stepped_by i c))) T.step.ran

  -- weights anew: the sums from z on
  pub sums_same : ((k : ℕ) → zone_at j k ≡ zone_at i k) → ((k : ℕ) → k < z → points_at s weights k ≡ points_at s i.weights k)
      → work_from R (blank j) 0 ≡ sum_from R (running j t u) z
  unfolding work_from sum_from blank bare
  sums_same agree even =
      ap (λ (o : Answer Stepped). bind o (λ t'. bind (resum R j t' (blank i).summed 0) (λ u'. Ok (running j t' u')))) (stepped_same agree)
      ∙ ap (λ (o : Answer Summed). bind o (λ u'. Ok (running j t u'))) (resum_same t (λ k lt. weights_agree t k refl (even k lt)))
