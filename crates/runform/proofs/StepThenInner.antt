-- A fresh run is one step, then the inner product over the step's own cores: what the sums read out of the chain's slots is what the rounding made. The same run, and the same refusals in the same order.
use Rattle.std.specs.Prelude.{Ok, Err}
use mathlib.Core.Path.{◌≡◌, refl, sym, ap, ◌∙◌, subst}
use Prim.Native.Nat.{ℕ, zero, suc, ◌-◌, ◌*◌, ◌≤◌, ◌<◌}
use native.Mathlib.Nat.{zero-add, sub-zero, le_trans, le_of_eq, mul-le-mul_right, mul-le-mul_left}
use native.Mathlib.Omega.{arith}
use mathlib.Core.Bool.{Bool, true, false, cond}
use mathlib.Core.List.{List, ◌∷◌}
use lib.Dec.{ltb}
use lib.ListN.{length, take, get_or, length-map, get_or-map}
use lib.Ieee.{Float}
use Rattle.numbers.specs.Arithmetic.{zero64}
use Rattle.answers.specs.Outcome.{Answer, bind, Check, ◌then◌}
use Rattle.answers.proofs.Outcomes.{bind_assoc, bind_ok, bind_cong, ok_inj}
use Rattle.lists.specs.Lists.{listed, tab}
use Rattle.lists.specs.Slots.{slot, fit}
use Rattle.lists.specs.Walks.{every, walk, state_at}
use Rattle.lists.specs.Floats.{at}
use Rattle.lists.proofs.Tests.{ltb_is}
use Rattle.lists.proofs.Tables.{listed_length, listed_same, tab_get_d_lem}
use Rattle.lists.proofs.Slots.{offset_mono, fit_used, slot_length}
use Rattle.lists.proofs.Walks.{All, listed_all, every_all, from_at, walk_from, state_at_lem}
use Rattle.shape.specs.declared.Shape.{Shape}
use Rattle.shape.specs.Shapes.{left_of, points_of, right_of, at_bond, core_size}
use Rattle.shape.specs.Cores.{Core, core_with, core_at, cores_of, points_at}
use Rattle.stepform.specs.declared.Axis.{Axis}
use Rattle.stepform.specs.Axes.{axis_at}
use Rattle.cutform.specs.Rounding.{Carry, none, Cut, cores_in}
use Rattle.sumform.specs.Product.{start_sums, sum_axis, sums, inner}
use Rattle.stepform.specs.declared.Settings.{Settings}
use Rattle.stepform.specs.Zones.{Zone, zone, zones_of, Rules, rules}
use Rattle.stepform.specs.Steps.{holding, shift_zone, scale_zone, round_zone, step_from, step}
use Rattle.runform.specs.Slices.{Slices}
use Rattle.runform.specs.Kept.{Inputs, Kept, inputs_of, running, blank, bare, zone_at, zones_from, left_rank, right_rank, kept_core, carry_at, sums_at, weighed_at, weighed_from, held_core}
use Rattle.cutform.specs.Keeping.{Stepped, rank_at}
use Rattle.runform.specs.Work.{sum_zone, restep, resum, sum_from, work_from}
use Rattle.runform.specs.Checks.{fresh_ok, fresh_run}
use Rattle.runform.specs.Call.{room_ok, run_end, fresh_by, fresh_call}
use Rattle.runform.specs.StepThenInner.{paired, step_then_inner}
use Rattle.runform.proofs.Sound.{Sound, Sized}
use Rattle.cutform.proofs.Cuts.{volume, rank_on}
use Rattle.runform.proofs.Rules.{rules_sound, rules_sized}
use Rattle.runform.proofs.Trace.{passed, inputs_are, StepTrace, Trace, stepped_by, summed_by}
use Rattle.runform.proofs.Held.{no_cut, sizes, cuts_length, rank_fits, right_fits, carry_read, core_slot, figure_read}

product_most : (a b c d f : ℕ) → a ≤ d → c ≤ f → a * b * c ≤ d * b * f
product_most a b c d f p r = le_trans (mul-le-mul_right c (mul-le-mul_right b p)) (mul-le-mul_left (d * b) r)

-- ---- the core that the run holds is the core that was made
module _ (R : Rules) (S : Sound R) (Z : Sized R) (i : Inputs) (P : StepTrace R i) where
  abbrev s : Shape
  s = i.shape

  abbrev t : Stepped
  t = stepped_by i P.cuts

  -- core k of the shape, with as many numbers
  record Of (k : ℕ) (c : Core) : Type 0 where
    left : c.rl ≡ left_of i.shape k
    points : c.n ≡ points_of i.shape k
    right : c.rr ≡ right_of i.shape k
    long : length c.entries ≡ volume c

  -- and what rounding leaves of it, from the carry b
  record CutHere (k : ℕ) (b : Carry) (r : Carry × Cut) : Type 0 where
    left : r.1.core.rl ≡ rank_on b (left_of i.shape k)
    points : r.1.core.n ≡ points_of i.shape k
    right : r.1.core.rr ≡ at_bond i.shape k (rank_on r.0 0) (right_of i.shape k)
    long : length r.1.core.entries ≡ volume r.1.core

  shift_of : (k : ℕ) (z : Zone) (c : Core) → Of k z.core → shift_zone R i.set k z ≡ Ok c → Of k c
  unfolding shift_zone
  shift_of k z c g h =
      let A = bind_ok (R.shift i.set k z) (λ l. Ok (holding z.core l)) c h in
      let o : Of k (holding z.core A.0) = record { left = g.left; points = g.points; right = g.right; long = Z.shifted i.set k z A.0 g.long A.1 } in
      subst (Of k) (ok_inj A.2) o

  scale_of : (k : ℕ) (c d : Core) → Of k c → scale_zone R i.set k c ≡ Ok d → Of k d
  unfolding scale_zone
  scale_of zero c d g h =
      let A = bind_ok (R.scale i.set c.entries) (λ l. Ok (holding c l)) d h in
      let o : Of 0 (holding c A.0) = record { left = g.left; points = g.points; right = g.right; long = Z.scaled i.set c.entries A.0 A.1 ∙ g.long } in
      subst (Of 0) (ok_inj A.2) o
  scale_of (suc k) c d g h = subst (Of (suc k)) (ok_inj h) g

  round_of : (k : ℕ) (b : Carry) (c : Core) (r : Carry × Cut) → Of k c → round_zone R i.set i.shape.d k b c ≡ Ok r → CutHere k b r
  unfolding round_zone
  round_of k b c r g h =
      let C = Z.rounded i.set (ltb (suc k) i.shape.d) k b c r g.long h in
      record {
        left = C.left ∙ ap (rank_on b) g.left;
        points = C.points ∙ g.points;
        right = C.right ∙ ap (λ (x : ℕ). cond (ltb (suc k) i.shape.d) (rank_on r.0 0) x) g.right;
        long = C.long;
      }

  zones_of_lem : All (λ (k : ℕ) (z : Zone). Of k z.core) 0 (zones_from i 0)
  unfolding zone_at core_at core_size
  zones_of_lem = listed_all (λ (k : ℕ) (z : Zone). Of k z.core) (i.shape.d - 0) 0 (zone_at i) (λ j a b.
      let L = (inputs_are i P.ok.lent).source in
      let m = offset_mono (core_size s) (suc j) s.d (omega arith) in
      record { left = refl; points = refl; right = refl; long = slot_length (core_size s) j i.source (omega arith) })

  cut_here : (k : ℕ) → k < i.shape.d → CutHere k (state_at none P.cuts k) (get_or P.cuts k no_cut)
  unfolding step_from
  cut_here k lt =
      let round = round_zone R i.set i.shape.d in
      let A = bind_ok (every (shift_zone R i.set) 0 (zones_from i 0)) (λ a. bind (every (scale_zone R i.set) 0 a) (λ b. walk round 0 none b)) P.cuts P.ran in
      let B = bind_ok (every (scale_zone R i.set) 0 A.0) (λ b. walk round 0 none b) P.cuts A.2 in
      let shifted = every_all (shift_zone R i.set) (λ (k : ℕ) (z : Zone). Of k z.core) Of shift_of 0 (zones_from i 0) A.0 zones_of_lem A.1 in
      let W = walk_from round Of CutHere round_of 0 none B.0 P.cuts (every_all (scale_zone R i.set) Of Of scale_of 0 A.0 B.0 shifted B.1) B.2 in
      let l = cuts_length R S i P in
      subst (λ (j : ℕ). CutHere j (state_at none P.cuts k) (get_or P.cuts k no_cut)) (zero-add k) (from_at CutHere 0 none P.cuts W k no_cut (omega arith))

  -- the ranks that are held are the carries'
  left_held_lem : (k : ℕ) → k < i.shape.d → (left_rank t k ≡ rank_on (state_at none P.cuts k) (left_of i.shape k)) × (left_rank t k ≤ left_of i.shape k)
  unfolding carry_at
  left_held_lem zero lt = let one = (sizes R S i P).first in (sym one, le_of_eq (sym one))
  left_held_lem (suc k) lt = (
    ap (λ (c : Carry). rank_on c (left_of s (suc k))) (carry_read R S i P (suc k) lt),
    subst (λ (x : ℕ). rank_at t k ≤ x) ((sizes R S i P).joins k lt) (rank_fits R S i P k lt).1,
  )

  right_held_lem : (k : ℕ) → k < i.shape.d → right_rank i.shape t k ≡ at_bond i.shape k (rank_on (get_or P.cuts k no_cut).0 0) (right_of i.shape k)
  unfolding carry_at
  right_held_lem k lt = go (ltb (suc k) s.d) refl
    where
      go : (b : Bool) → ltb (suc k) i.shape.d ≡ b → cond b (rank_at t k) (right_of i.shape k) ≡ cond b (rank_on (get_or P.cuts k no_cut).0 0) (right_of i.shape k)
      go true e =
          let l = cuts_length R S i P in
          ap (λ (c : Carry). rank_on c 0) (carry_read R S i P (suc k) (ltb_is (suc k) s.d e)) ∙ ap (λ (c : Carry). rank_on c 0) (state_at_lem none P.cuts k no_cut (omega arith))
      go false e = refl

  pub core_read : (k : ℕ) → k < i.shape.d → kept_core i.shape t k ≡ (get_or P.cuts k no_cut).1.core
  unfolding held_core core_size
  core_read k lt =
      let C = cut_here k lt in
      let c = (get_or P.cuts k no_cut).1.core in
      let n = points_of s k in
      let L = left_held_lem k lt in
      let l : left_rank t k ≡ c.rl = L.0 ∙ sym C.left in
      let r : right_rank s t k ≡ c.rr = right_held_lem k lt ∙ sym C.right in
      let p : n ≡ c.n = sym C.points in
      let e : left_rank t k * n * right_rank s t k ≡ length c.entries = ap (λ (x : ℕ). x * n * right_rank s t k) l ∙ ap (λ (x : ℕ). c.rl * x * right_rank s t k) p ∙ ap (λ (x : ℕ). c.rl * c.n * x) r ∙ sym C.long in
      let fits : length c.entries ≤ core_size s k = subst (λ (x : ℕ). x ≤ left_of s k * n * right_of s k) e (product_most (left_rank t k) n (right_rank s t k) (left_of s k) (right_of s k) L.1 (right_fits R S i P k)) in
      let x : take (left_rank t k * n * right_rank s t k) (slot (core_size s) k t.chain) ≡ c.entries =
      ap (take (left_rank t k * n * right_rank s t k)) (core_slot R S i P k lt)
      ∙ ap (λ (m : ℕ). take m (fit zero64 (core_size s k) c.entries)) e
      ∙ fit_used zero64 (core_size s k) c.entries fits in
      ap (λ (y : List Float). core_with (left_rank t k) n (right_rank s t k) y) x
      ∙ ap (λ (a : ℕ). core_with a n (right_rank s t k) c.entries) l
      ∙ ap (λ (a : ℕ). core_with c.rl a (right_rank s t k) c.entries) p
      ∙ ap (λ (a : ℕ). core_with c.rl c.n a c.entries) r

-- ---- the lists that the two definitions walk over
zones_listed : (xs : List Axis) (m k : ℕ) (f : ℕ → Core) → zones_of xs k (listed m k f) ≡ listed m k (λ (j : ℕ). zone (f j) (axis_at xs j))
unfolding zones_of listed
zones_listed xs zero k f = refl
zones_listed xs (suc m) k f = ap (λ l. zone (f k) (axis_at xs k) ∷ l) (zones_listed xs m (suc k) f)

paired_listed : (s : Shape) (w : List Float) (m k : ℕ) (f : ℕ → Core) → paired s w k (listed m k f) ≡ listed m k (λ (j : ℕ). (f j, points_at s w j))
unfolding paired listed
paired_listed s w zero k f = refl
paired_listed s w (suc m) k f = ap (λ l. (f k, points_at s w k) ∷ l) (paired_listed s w m (suc k) f)

-- the step of the whole chain
step_is : (i : Inputs) → step i.set i.axes (cores_of i.shape i.source) ≡ step_from rules i.set i.shape.d 0 none (zones_from i 0)
unfolding step cores_of zone_at
step_is i =
    let s = i.shape in
    let f = core_at s i.source in
    ap (λ (d : ℕ). step_from rules i.set d 0 none (zones_of i.axes 0 (tab s.d f))) (listed_length s.d 0 f)
    ∙ ap (step_from rules i.set s.d 0 none) (zones_listed i.axes s.d 0 f ∙ ap (λ (m : ℕ). listed m 0 (zone_at i)) (sym (sub-zero s.d)))

module _ (i : Inputs) (P : StepTrace rules i) where
  -- the cores with their weights
  cores_read : weighed_from i (stepped_by i P.cuts) 0 ≡ paired i.shape i.weights 0 (cores_in P.cuts)
  unfolding weighed_at
  cores_read =
      let s = i.shape in
      let t = stepped_by i P.cuts in
      let cs = cores_in P.cuts in
      let none-core = no_cut.1.core in
      let len : length cs ≡ s.d = length-map P.cuts (λ (r : Carry × Cut). r.1.core) ∙ cuts_length rules rules_sound i P in
      ap (λ (m : ℕ). listed m 0 (weighed_at i t)) (sub-zero s.d ∙ sym len)
      ∙ listed_same (length cs) 0 (weighed_at i t) (λ (j : ℕ). (get_or cs j none-core, points_at s i.weights j)) (λ j a b.
      ap (λ (c : Core). (c, points_at s i.weights j)) (core_read rules rules_sound rules_sized i P j (omega arith) ∙ sym (get_or-map (λ (r : Carry × Cut). r.1.core) P.cuts j no_cut)))
      ∙ sym (paired_listed s i.weights (length cs) 0 (λ (j : ℕ). get_or cs j none-core))
      ∙ ap (paired s i.weights 0) (tab_get_d_lem none-core cs)

  -- the sums, and the figure
  abbrev kept_with : List (List Float × Unit {0}) → Float → Kept
  kept_with e x = running i (stepped_by i P.cuts) (record { sums = (summed_by i e).sums; figure = x })

  abbrev last_sum : List (List Float × Unit {0}) → Float
  last_sum e = at (state_at start_sums e (length e)) 0

  figure_is : (o : Answer (List (List Float × Unit {0}))) → walk (sum_zone rules) 0 start_sums (weighed_from i (stepped_by i P.cuts) 0) ≡ o
      → bind (bind o (λ e. Ok (summed_by i e))) (λ u. Ok (running i (stepped_by i P.cuts) u)) ≡ bind o (λ e. bind (bind o (λ f. Ok (last_sum f))) (λ x. Ok (kept_with e x)))
  figure_is (Ok e) h = let T : Trace rules i = record { step = P; sums = e; ran = h } in ap (λ (x : Float). Ok (kept_with e x)) (figure_read rules rules_sound i T)
  figure_is (Err r) h = refl

  summed_is : sum_from rules (running i (stepped_by i P.cuts) (blank i).summed) 0
      ≡ (let ps = paired i.shape i.weights 0 (cores_in P.cuts) in bind (sums ps) (λ e. bind (inner ps) (λ x. Ok (kept_with e x))))
  unfolding sum_from resum sums inner sums_at sum_zone sum_axis rules
  summed_is =
      figure_is (walk (sum_zone rules) 0 start_sums (weighed_from i (stepped_by i P.cuts) 0)) refl
      ∙ ap (λ (ps : List (Core × List Float)). bind (walk sum_axis 0 start_sums ps) (λ e. bind (bind (walk sum_axis 0 start_sums ps) (λ f. Ok (last_sum f))) (λ x. Ok (kept_with e x)))) cores_read

-- THE FRESH RUN of 000's and 001's rules, refusals and their order too: once the checks pass, one step, then the inner product
pub fresh_is : (room : Check) (i : Inputs) → fresh_run rules room i ≡ fresh_ok rules room i then step_then_inner i
unfolding fresh_run work_from restep carry_at blank bare step_then_inner
fresh_is room i = bind_cong (fresh_ok rules room i) (λ _. work_from rules (blank i) 0) (λ _. step_then_inner i) (λ u e.
    let ok = (passed rules room i e).0 in
    let rest : List (Carry × Cut) → Answer Kept = λ tr. (let ps = paired i.shape i.weights 0 (cores_in tr) in bind (sums ps) (λ e. bind (inner ps) (λ x. Ok (running i (stepped_by i tr) (record { sums = (summed_by i e).sums; figure = x }))))) in
    let walked = step_from rules i.set i.shape.d 0 none (zones_from i 0) in
    bind_assoc walked (λ tr. Ok (stepped_by i tr)) (λ t. sum_from rules (running i t (blank i).summed) 0)
    ∙ bind_cong walked (λ tr. sum_from rules (running i (stepped_by i tr) (blank i).summed) 0) rest (λ tr h. summed_is i (record { ok = ok; cuts = tr; ran = h }))
    ∙ ap (λ (o : Answer (List (Carry × Cut))). bind o rest) (sym (step_is i)))

-- and so of the call
pub fresh_call_is : (s : Shape) (axes : List Axis) (t : Settings) (m : Slices (List Float)) (scratch : List Float)
    → let i = inputs_of s axes t m in
    fresh_call s axes t m scratch
    ≡ run_end (bare i m.outputs) scratch (fresh_ok rules (room_ok s (record { outputs = m.outputs; scratch = scratch })) i then step_then_inner i)
unfolding fresh_by
fresh_call_is s axes t m scratch =
    let i = inputs_of s axes t m in
    ap (run_end (bare i m.outputs) scratch) (fresh_is (room_ok s (record { outputs = m.outputs; scratch = scratch })) i)
