-- What a fresh run holds is what its walks left: carries and sums are read again as the walks' states, kept ranks lie within their bounds, every kept number is finite. Of the rules only `Sound` is used.
use Rattle.std.specs.Prelude.{Ok}
use mathlib.Core.Path.{◌≡◌, refl, sym, ap, ◌∙◌, subst}
use Prim.Native.Nat.{ℕ, zero, suc, ◌-◌, ◌*◌, ◌≤◌, ◌<◌}
use native.Mathlib.Nat.{zero-add, add-zero, sub-zero, le_refl, mul-le-mul_right}
use native.Mathlib.Omega.{arith}
use mathlib.Core.Bool.{Bool, true, false, cond}
use mathlib.Core.List.{List, []}
use lib.Dec.{ltb}
use lib.ListN.{length, take, get_or}
use lib.Seq.{get_or-take}
use lib.Ieee.{Float, nan}
use Rattle.numbers.specs.Arithmetic.{zero64}
use Rattle.numbers.specs.Finite.{finite}
use Rattle.answers.specs.Outcome.{bind}
use Rattle.answers.proofs.Outcomes.{bind_ok, ok_inj}
use Rattle.lists.specs.Slots.{offset, slot, fit}
use Rattle.lists.specs.Walks.{every, walk, state_at}
use Rattle.lists.specs.Floats.{at, all_finite}
use Rattle.lists.proofs.Tests.{ltb_yes, ltb_no, ltb_is}
use Rattle.lists.proofs.Tables.{listed_length}
use Rattle.lists.proofs.Floats.{finite_take, finite_fit, finite_get_d_lem}
use Rattle.lists.proofs.Slots.{fit_length, fit_used}
use Rattle.lists.proofs.Written.{get_or_slot_lem, written_slot}
use Rattle.lists.proofs.Walks.{All, all_at, listed_all, every_all, walk_all, walk_length, state_at_lem}
use Rattle.shape.specs.Shapes.{points_of, right_of, core_size}
use Rattle.shape.specs.Cores.{Core, core_with, core_at}
use Rattle.shape.proofs.Shaped.{Shaped, shaped}
use Rattle.cutform.specs.declared.Bond.{Bond}
use Rattle.cutform.specs.Bonds.{no_bond, past_bond}
use Rattle.cutform.specs.Rounding.{Carry, none, some, Cut, numbers_in}
use Rattle.cutform.specs.Call.{core_finite}
use Rattle.cutform.proofs.BondSlots.{bond_one, bond_at}
use Rattle.sumform.specs.Product.{start_sums}
use Rattle.stepform.specs.Zones.{Zone, Rules}
use Rattle.stepform.specs.Steps.{holding, shift_zone, scale_zone, round_zone, step_from}
use Rattle.stepform.proofs.Restart.{step_length}
use Rattle.sumform.specs.Sums.{sum_size}
use Rattle.runform.specs.Kept.{Inputs, blank, zone_at, zones_from, left_rank, right_rank, kept_core, kept_carry, carry_at, kept_sums, sums_at, weighed_at, weighed_from, held_core}
use Rattle.cutform.specs.Keeping.{bond_size, carry_size, bond_among, dropped_among, rank_at, keep_step}
use Rattle.runform.specs.Work.{keep_sums, sum_zone}
use Rattle.runform.proofs.Sound.{Sound}
use Rattle.cutform.proofs.Cuts.{Carried}
use Rattle.runform.proofs.Trace.{StepTrace, Trace, fine_zone, stepped_by, summed_by}

-- a zone of which nothing is kept
abbrev pub no_cut : Carry × Cut
no_cut = (none, record { core = core_with 0 0 0 []; bonds = [] })

abbrev pub no_sums : List Float × Unit {0}
no_sums = ([], tt)

module _ (R : Rules) (S : Sound R) (i : Inputs) (P : StepTrace R i) where
  pub sizes : Shaped i.shape
  sizes = shaped i.shape (λ (k : ℕ). true) P.ok.shape

  -- ---- what the step's walk left of each zone
  abbrev Fine : ℕ → Core → Type 0
  Fine k c = (all_finite c.entries ≡ true) × (c.rr ≡ right_of i.shape k)

  abbrev Good : ℕ → Carry × Cut → Type 0
  Good k r = (all_finite r.1.core.entries ≡ true) × (suc k < i.shape.d → Carried (right_of i.shape k) r)

  shift_fine : (k : ℕ) (z : Zone) (c : Core) → Fine k z.core → shift_zone R i.set k z ≡ Ok c → Fine k c
  unfolding shift_zone
  shift_fine k z c g h =
      let A = bind_ok (R.shift i.set k z) (λ l. Ok (holding z.core l)) c h in
      subst (Fine k) (ok_inj A.2) (S.shifted i.set k z A.0 g.0 A.1, g.1)

  scale_fine : (k : ℕ) (c c' : Core) → Fine k c → scale_zone R i.set k c ≡ Ok c' → Fine k c'
  unfolding scale_zone
  scale_fine zero c c' g h =
      let A = bind_ok (R.scale i.set c.entries) (λ l. Ok (holding c l)) c' h in
      subst (Fine 0) (ok_inj A.2) (S.scaled i.set c.entries A.0 A.1, g.1)
  scale_fine (suc k) c c' g h = subst (Fine (suc k)) (ok_inj h) g

  round_good : (k : ℕ) (b : Carry) (c : Core) (r : Carry × Cut) → Fine k c → round_zone R i.set i.shape.d k b c ≡ Ok r → Good k r
  unfolding round_zone
  round_good k b c r g h = (
    S.rounded i.set (ltb (suc k) i.shape.d) k b c r g.0 h,
    λ lt.
        subst (λ (x : ℕ). Carried x r) g.1
        (S.carried i.set k b c r (subst (λ (x : ℕ). 1 ≤ x) (sym g.1) (sizes.right k (omega arith))) (ap (λ (x : Bool). R.round i.set x k b c) (sym (ltb_yes (suc k) i.shape.d lt)) ∙ h)),
  )

  pub cuts_length : length P.cuts ≡ i.shape.d
  cuts_length = step_length R i.set i.shape.d 0 none (zones_from i 0) P.cuts P.ran ∙ listed_length (i.shape.d - 0) 0 (zone_at i) ∙ sub-zero i.shape.d

  zones_fine : All (λ (k : ℕ) (z : Zone). Fine k z.core) 0 (zones_from i 0)
  unfolding zone_at core_at core_finite
  zones_fine = listed_all (λ (k : ℕ) (z : Zone). Fine k z.core) (i.shape.d - 0) 0 (zone_at i) (λ j a b. ((fine_zone i j (P.ok.fine j (omega arith))).core, refl))

  all_good : All Good 0 P.cuts
  unfolding step_from
  all_good =
      let round = round_zone R i.set i.shape.d in
      let A = bind_ok (every (shift_zone R i.set) 0 (zones_from i 0)) (λ a. bind (every (scale_zone R i.set) 0 a) (λ b. walk round 0 none b)) P.cuts P.ran in
      let B = bind_ok (every (scale_zone R i.set) 0 A.0) (λ b. walk round 0 none b) P.cuts A.2 in
      walk_all round Fine Good round_good 0 none B.0 P.cuts
      (every_all (scale_zone R i.set) Fine Fine scale_fine 0 A.0 B.0 (every_all (shift_zone R i.set) (λ (k : ℕ) (z : Zone). Fine k z.core) Fine shift_fine 0 (zones_from i 0) A.0 zones_fine A.1) B.1)
      B.2

  good_at : (k : ℕ) → k < i.shape.d → Good k (get_or P.cuts k no_cut)
  good_at k lt = let l = cuts_length in subst (λ (j : ℕ). Good j (get_or P.cuts k no_cut)) (zero-add k) (all_at Good 0 P.cuts all_good k no_cut (omega arith))

  carried_at : (k : ℕ) → suc k < i.shape.d → Carried (right_of i.shape k) (get_or P.cuts k no_cut)
  carried_at k lt = (good_at k (omega arith)).1 lt

  -- ---- ranks
  bond_held : (k : ℕ) (lt : suc k < i.shape.d) → bond_among (stepped_by i P.cuts).bonds k ≡ (carried_at k lt).bond
  unfolding keep_step fit
  bond_held k lt =
      let C = carried_at k lt in
      sym (bond_at i.shape k (stepped_by i P.cuts).bonds lt past_bond)
      ∙ ap (λ (l : List Bond). bond_among l 0) (written_slot (bond_size i.shape) no_bond i.shape.d (λ (r : Carry × Cut). r.1.bonds) no_cut refl P.cuts (blank i).stepped.bonds k cuts_length (omega arith)
      ∙ ap (λ (n : ℕ). fit no_bond n (get_or P.cuts k no_cut).1.bonds) (bond_one i.shape k lt)
      ∙ ap (fit no_bond 1) C.bonds)

  rank_held : (k : ℕ) (lt : suc k < i.shape.d) → rank_at (stepped_by i P.cuts) k ≡ (carried_at k lt).bond.rank
  rank_held k lt = ap (λ (b : Bond). b.rank) (bond_held k lt)

  pub dropped_finite : (k : ℕ) → suc k < i.shape.d → finite (dropped_among (stepped_by i P.cuts).bonds k) ≡ true
  dropped_finite k lt = ap (λ (b : Bond). finite b.dropped) (bond_held k lt) ∙ (carried_at k lt).dropped

  pub rank_fits : (k : ℕ) → suc k < i.shape.d → (1 ≤ rank_at (stepped_by i P.cuts) k) × (rank_at (stepped_by i P.cuts) k ≤ right_of i.shape k)
  rank_fits k lt =
      let C = carried_at k lt in
      let e = rank_held k lt in
      (subst (λ (x : ℕ). 1 ≤ x) (sym e) C.least, subst (λ (x : ℕ). x ≤ right_of i.shape k) (sym e) C.most)

  pub right_fits : (k : ℕ) → right_rank i.shape (stepped_by i P.cuts) k ≤ right_of i.shape k
  right_fits k = go (ltb (suc k) i.shape.d) refl
    where
      go : (b : Bool) → ltb (suc k) i.shape.d ≡ b → cond b (rank_at (stepped_by i P.cuts) k) (right_of i.shape k) ≤ right_of i.shape k
      go true e = (rank_fits k (ltb_is (suc k) i.shape.d e)).1
      go false e = le_refl (right_of i.shape k)

  -- ---- carries
  carry_slot : (k : ℕ) (lt : suc k < i.shape.d) → slot (carry_size i.shape) k (stepped_by i P.cuts).carries ≡ fit zero64 (right_of i.shape k * right_of i.shape k) (carried_at k lt).numbers
  unfolding keep_step carry_size
  carry_slot k lt =
      let C = carried_at k lt in
      let rr = right_of i.shape k in
      let full : carry_size i.shape k ≡ rr * rr = ap (λ (b : Bool). cond b (rr * rr) 0) (ltb_yes (suc k) i.shape.d lt) in
      written_slot (carry_size i.shape) zero64 i.shape.d (λ (r : Carry × Cut). numbers_in r.0) no_cut refl P.cuts (blank i).stepped.carries k cuts_length (omega arith)
      ∙ ap (λ (n : ℕ). fit zero64 n (numbers_in (get_or P.cuts k no_cut).0)) full
      ∙ ap (λ (c : Carry). fit zero64 (rr * rr) (numbers_in c)) C.«is»

  carry_held_lem : (k : ℕ) (lt : suc k < i.shape.d) → kept_carry i.shape (stepped_by i P.cuts) k ≡ (carried_at k lt).numbers
  carry_held_lem k lt =
      let C = carried_at k lt in
      let rr = right_of i.shape k in
      let m : C.bond.rank * rr ≤ rr * rr = mul-le-mul_right rr C.most in
      let e : rank_at (stepped_by i P.cuts) k * rr ≡ length C.numbers = ap (λ (x : ℕ). x * rr) (rank_held k lt) ∙ sym C.long in
      let l = C.long in
      ap (λ (x : List Float). take (rank_at (stepped_by i P.cuts) k * rr) x) (carry_slot k lt)
      ∙ ap (λ (n : ℕ). take n (fit zero64 (rr * rr) C.numbers)) e
      ∙ fit_used zero64 (rr * rr) C.numbers (omega arith)

  -- the carry that the run holds left of zone z is the walk's state there
  pub carry_read : (z : ℕ) → z < i.shape.d → carry_at i.shape (stepped_by i P.cuts) z ≡ state_at none P.cuts z
  unfolding carry_at
  carry_read zero lt = refl
  carry_read (suc k) lt =
      let C = carried_at k lt in
      let l = cuts_length in
      ap (λ (x : ℕ). some x (kept_carry i.shape (stepped_by i P.cuts) k)) (rank_held k lt)
      ∙ ap (λ (x : List Float). some C.bond.rank x) (carry_held_lem k lt)
      ∙ sym C.«is»
      ∙ sym (state_at_lem none P.cuts k no_cut (omega arith))

  pub carry_finite : (k : ℕ) → suc k < i.shape.d → all_finite (kept_carry i.shape (stepped_by i P.cuts) k) ≡ true
  carry_finite k lt = ap all_finite (carry_held_lem k lt) ∙ (carried_at k lt).fine

  -- ---- cores
  -- slot k of the chain holds the core that the walk left, and +0 behind it
  pub core_slot : (k : ℕ) → k < i.shape.d → slot (core_size i.shape) k (stepped_by i P.cuts).chain ≡ fit zero64 (core_size i.shape k) (get_or P.cuts k no_cut).1.core.entries
  unfolding keep_step
  core_slot k lt = written_slot (core_size i.shape) zero64 i.shape.d (λ (r : Carry × Cut). r.1.core.entries) no_cut refl P.cuts (blank i).stepped.chain k cuts_length lt

  pub core_finite_lem : (k : ℕ) → k < i.shape.d → all_finite (kept_core i.shape (stepped_by i P.cuts) k).entries ≡ true
  unfolding held_core
  core_finite_lem k lt =
      let t = stepped_by i P.cuts in
      finite_take (left_rank t k * points_of i.shape k * right_rank i.shape t k) (slot (core_size i.shape) k t.chain)
      (ap all_finite (core_slot k lt) ∙ finite_fit (core_size i.shape k) (get_or P.cuts k no_cut).1.core.entries (good_at k lt).0)

-- ---- sums
module _ (R : Rules) (S : Sound R) (i : Inputs) (T : Trace R i) where
  abbrev Right : ℕ → Core × List Float → Type 0
  Right k p = p.0.rr ≡ right_rank i.shape (stepped_by i T.step.cuts) k

  abbrev Sum : ℕ → List Float × Unit {0} → Type 0
  Sum k r = (length r.0 ≡ right_rank i.shape (stepped_by i T.step.cuts) k) × (all_finite r.0 ≡ true)

  sum_good : (k : ℕ) (e : List Float) (p : Core × List Float) (r : List Float × Unit {0}) → Right k p → sum_zone R k e p ≡ Ok r → Sum k r
  unfolding sum_zone
  sum_good k e p r g h =
      let A = bind_ok (R.weigh k p.0 p.1 e) (λ e'. Ok (e', tt)) r h in
      let W = S.weighed k p.0 p.1 e A.0 A.1 in
      subst (Sum k) (ok_inj A.2) (W.0 ∙ g, W.1)

  pub sums_length : length T.sums ≡ i.shape.d
  sums_length = walk_length (sum_zone R) 0 start_sums (weighed_from i (stepped_by i T.step.cuts) 0) T.sums T.ran ∙ listed_length (i.shape.d - 0) 0 (weighed_at i (stepped_by i T.step.cuts)) ∙ sub-zero i.shape.d

  sum_at : (k : ℕ) → k < i.shape.d → Sum k (get_or T.sums k no_sums)
  unfolding weighed_at held_core
  sum_at k lt =
      let l = sums_length in
      let t = stepped_by i T.step.cuts in
      let a : All Sum 0 T.sums = walk_all (sum_zone R) Right Sum sum_good 0 start_sums (weighed_from i t 0) T.sums (listed_all Right (i.shape.d - 0) 0 (weighed_at i t) (λ j p q. refl)) T.ran in
      subst (λ (j : ℕ). Sum j (get_or T.sums k no_sums)) (zero-add k) (all_at Sum 0 T.sums a k no_sums (omega arith))

  sum_slot : (k : ℕ) → k < i.shape.d → slot (sum_size i.shape) k (summed_by i T.sums).sums ≡ fit zero64 (right_of i.shape k) (get_or T.sums k no_sums).0
  unfolding keep_sums sum_size
  sum_slot k lt = written_slot (sum_size i.shape) zero64 i.shape.d (λ (r : List Float × Unit {0}). r.0) no_sums refl T.sums (blank i).summed.sums k sums_length lt

  pub sum_held : (k : ℕ) → k < i.shape.d → kept_sums i.shape (stepped_by i T.step.cuts) (summed_by i T.sums) k ≡ (get_or T.sums k no_sums).0
  sum_held k lt =
      let m = right_fits R S i T.step k in
      let e = (sum_at k lt).0 in
      let n = right_of i.shape k in
      ap (take (right_rank i.shape (stepped_by i T.step.cuts) k)) (sum_slot k lt)
      ∙ ap (λ (j : ℕ). take j (fit zero64 n (get_or T.sums k no_sums).0)) (sym e)
      ∙ fit_used zero64 n (get_or T.sums k no_sums).0 (subst (λ (x : ℕ). x ≤ n) (sym e) m)

  -- the sums that the run holds left of zone z are the walk's state there
  pub sums_read : (z : ℕ) → z ≤ i.shape.d → sums_at i.shape (stepped_by i T.step.cuts) (summed_by i T.sums) z ≡ state_at start_sums T.sums z
  unfolding sums_at
  sums_read zero le = refl
  sums_read (suc k) le = let l = sums_length in sum_held k le ∙ sym (state_at_lem start_sums T.sums k no_sums (omega arith))

  pub sum_finite : (k : ℕ) → k < i.shape.d → all_finite (kept_sums i.shape (stepped_by i T.step.cuts) (summed_by i T.sums) k) ≡ true
  sum_finite k lt = ap all_finite (sum_held k lt) ∙ (sum_at k lt).1

  -- the figure is the first of the last axis' sums
  figure_slot : (k : ℕ) → suc k ≡ i.shape.d → (summed_by i T.sums).figure ≡ at (fit zero64 (right_of i.shape k) (get_or T.sums k no_sums).0) 0
  unfolding keep_sums sum_size
  figure_slot k e =
      let L = (summed_by i T.sums).sums in
      let last : i.shape.d - 1 ≡ k = omega arith in
      ap (λ (j : ℕ). at L (offset (sum_size i.shape) j)) last
      ∙ ap (at L) (sym (add-zero (offset (sum_size i.shape) k)))
      ∙ sym (get_or_slot_lem (sum_size i.shape) k L 0 nan ((sizes R S i T.step).right k (omega arith)))
      ∙ ap (λ (l : List Float). at l 0) (sum_slot k (omega arith))

  pub figure_finite : finite (summed_by i T.sums).figure ≡ true
  figure_finite =
      let one = (sizes R S i T.step).least in
      let k = i.shape.d - 1 in
      let n = right_of i.shape k in
      let r = (sizes R S i T.step).right k (omega arith) in
      let l = fit_length zero64 n (get_or T.sums k no_sums).0 in
      ap finite (figure_slot k (omega arith)) ∙ finite_get_d_lem (fit zero64 n (get_or T.sums k no_sums).0) 0 nan (omega arith) (finite_fit n (get_or T.sums k no_sums).0 (sum_at k (omega arith)).1)

  -- and the number that the walk over the sums ends with
  pub figure_read : (summed_by i T.sums).figure ≡ at (state_at start_sums T.sums (length T.sums)) 0
  figure_read =
      let one = (sizes R S i T.step).least in
      let k = i.shape.d - 1 in
      let t = stepped_by i T.step.cuts in
      let n = right_of i.shape k in
      let x = (get_or T.sums k no_sums).0 in
      let here : k < i.shape.d = omega arith in
      let end : suc k ≡ i.shape.d = omega arith in
      let least = (sizes R S i T.step).right k here in
      let full : right_rank i.shape t k ≡ n = ap (λ (b : Bool). cond b (rank_at t k) n) (ltb_no (suc k) i.shape.d (omega arith)) in
      let long : length x ≡ n = (sum_at k here).0 ∙ full in
      let len = sums_length in
      figure_slot k end
      ∙ sym (get_or-take (length x) (fit zero64 n x) 0 nan (omega arith))
      ∙ ap (λ (l : List Float). at l 0) (fit_used zero64 n x (omega arith) ∙ sym (state_at_lem start_sums T.sums k no_sums (omega arith)))
      ∙ ap (λ (j : ℕ). at (state_at start_sums T.sums j) 0) (end ∙ sym len)
