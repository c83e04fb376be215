-- One replacement on a run that a fresh start made answers what a fresh run with the new part in answers: the same run, or the same refusal. Of the rules only `Sound` is used.
use Rattle.std.specs.Prelude.{Ok}
use mathlib.Core.Path.{◌≡◌, refl, sym, ap, ◌∙◌}
use Prim.Native.Nat.{ℕ, suc, ◌+◌, ◌-◌, ◌≤◌, ◌<◌}
use native.Mathlib.Nat.{zero-add}
use native.Mathlib.Omega.{arith}
use mathlib.Core.Bool.{Bool, true, false}
use mathlib.Core.List.{List}
use lib.Dec.{eqb}
use lib.ListN.{length, set}
use lib.Seq.{get_or-set_same, get_or-set_other}
use lib.Ieee.{Float}
use Rattle.answers.specs.declared.Refusal.TheVariants.{Number, Setting, Reach}
use Rattle.answers.specs.Outcome.{Check, ◌then◌, demand_each}
use Rattle.answers.proofs.Checks.{demand_yes, then_skip, then_on, each_same, each_yes, each_from}
use Rattle.lists.specs.Lists.{pick}
use Rattle.lists.specs.Slots.{offset, slot, put}
use Rattle.lists.specs.Floats.{all_finite}
use Rattle.lists.proofs.Tests.{eqb_is, eqb_not, and_yes, and_first, and_last}
use Rattle.lists.proofs.Slots.{offset_mono, put_length, slot_put_same}
use Rattle.lists.proofs.Written.{slot_put_other}
use Rattle.shape.specs.declared.Shape.{Shape}
use Rattle.shape.specs.Shapes.{left_of, points_of, right_of, core_size, point_size}
use Rattle.shape.specs.Cores.{Core, core_with, core_at, points_at}
use Rattle.stepform.specs.declared.Axis.{Axis}
use Rattle.stepform.specs.Axes.{axis_finite, axis_ok, axis_at, blank}
use Rattle.cutform.specs.Call.{core_finite}
use Rattle.stepform.specs.Zones.{Zone, zone, Rules}
use Rattle.stepform.specs.Call.{reaches_at}
use Rattle.runform.specs.Kept.{Inputs, zone_at}
use Rattle.stepform.specs.Lone.{lone_finite, lone_ok}
use Rattle.runform.specs.Checks.{made_finite, zone_finite, in_reach_at, made_ok, fresh_ok, fresh_run}
use Rattle.runform.specs.Requests.{Request, new_core, new_axis, new_weights, present, InOrder, shifts_ok, replace}
use Rattle.runform.proofs.Sound.{Sound}
use Rattle.runform.proofs.Trace.{Lent, inputs_are, inputs_pass, fine_zone, Trace, kept_by}
use Rattle.runform.proofs.Same.{changed, work_same, sums_same}
use Rattle.runform.proofs.Found.{part_finite, part_ok, part_passes, found_passes}

-- x holds at every place but z, and is y there
at_zone : (k z : ℕ) (x y : Bool) → (k ≡ z → x ≡ y) → (¬ (k ≡ z) → x ≡ true) → x ≡ pick (eqb k z) y true
unfolding pick
at_zone k z x y same other = go (eqb k z) refl
  where
    go : (b : Bool) → eqb k z ≡ b → x ≡ pick b y true
    go true e = same (eqb_is k z e)
    go false e = other (eqb_not k z e)

module _ (R : Rules) (S : Sound R) (i : Inputs) (T : Trace R i) where
  abbrev s : Shape
  s = i.shape

  lent : Lent i
  lent = inputs_are i T.step.ok.lent

  -- a fresh run's checks on changed inputs, of which 6 and 7 and 8 are known
  changed_passes : (axes : List Axis) (source weights : List Float) (six seven : ℕ → Bool) (eight : Check)
      → Lent (changed i axes source weights)
      → ((k : ℕ) → k < i.shape.d → zone_finite (changed i axes source weights) k ≡ six k)
      → ((k : ℕ) → k < i.shape.d → axis_ok (axis_at axes k) ≡ seven k)
      → demand_each Reach (in_reach_at R (changed i axes source weights)) i.shape.d 0 ≡ eight
      → fresh_ok R (Ok tt) (changed i axes source weights) ≡ (demand_each Number six i.shape.d 0 then demand_each Setting seven i.shape.d 0) then eight
  unfolding fresh_ok made_ok
  changed_passes axes source weights six seven eight len six-is seven_is eight_is =
      let j = changed i axes source weights in
      then_skip _ _ _ T.step.ok.shape
      (then_skip _ _ _ (inputs_pass j len)
      (then_on _ _ _ _
      (then_skip _ _ _ (demand_yes (lone_finite i.set) (Number 0) T.step.ok.lone)
      (then_on _ _ _ _ (each_same Number (zone_finite j) six i.shape.d 0 (λ k a b. six-is k (omega arith)))
      (then_skip _ _ _ (demand_yes (lone_ok i.set) (Setting 0) T.step.ok.mild)
      (each_same Setting (λ (k : ℕ). axis_ok (axis_at axes k)) seven i.shape.d 0 (λ k a b. seven_is k (omega arith))))))
      eight_is))

  -- 7 of axes that are as they were
  still_mild : (z k : ℕ) → k < i.shape.d → axis_ok (axis_at i.axes k) ≡ pick (eqb k z) true true
  still_mild z k lt = at_zone k z _ true (λ e. T.step.ok.axes k lt) (λ ne. T.step.ok.axes k lt)

  -- zones that did not change reach as they did
  reach_same : (axes : List Axis) (source weights : List Float) (k : ℕ) → k < i.shape.d → zone_at (changed i axes source weights) k ≡ zone_at i k → in_reach_at R (changed i axes source weights) k ≡ true
  unfolding reaches_at zone_at core_at
  reach_same axes source weights k lt e = ap (λ (z : Zone). R.reaches i.set z.axis z.core.n) e ∙ T.step.ok.reach k lt

  reach_from_lem : (axes : List Axis) (source weights : List Float) (z : ℕ) → z < i.shape.d → ((k : ℕ) → k < z → zone_at (changed i axes source weights) k ≡ zone_at i k)
      → demand_each Reach (in_reach_at R (changed i axes source weights)) i.shape.d 0 ≡ demand_each Reach (in_reach_at R (changed i axes source weights)) (i.shape.d - z) z
  reach_from_lem axes source weights z lt agree =
      let p = in_reach_at R (changed i axes source weights) in
      let d = i.shape.d in
      let e : d ≡ z + (d - z) = omega arith in
      ap (λ (m : ℕ). demand_each Reach p m 0) e
      ∙ each_from Reach p z (d - z) 0 (λ k a b. reach_same axes source weights k (omega arith) (agree k (omega arith)))
      ∙ ap (λ (m : ℕ). demand_each Reach p (d - z) m) (zero-add z)

  -- one slot of a whole slice anew
  room : (size : ℕ → ℕ) (l : List Float) → length l ≡ offset size i.shape.d → (z : ℕ) → z < i.shape.d → offset size (suc z) ≤ length l
  room size l e z lt = let m = offset_mono size (suc z) i.shape.d lt in omega arith

  -- ---- a core
  module _ (z : ℕ) (xs : List Float) (O : InOrder i.shape (new_core z xs)) where
    abbrev source' : List Float
    source' = put (core_size i.shape) z xs i.source

    long : length xs ≡ core_size i.shape z
    long = eqb_is (length xs) (core_size s z) O.fits

    source_room : offset (core_size i.shape) (suc z) ≤ length i.source
    source_room = room (core_size s) i.source lent.source z O.inside

    core_other : (k : ℕ) → ¬ (k ≡ z) → core_at i.shape source' k ≡ core_at i.shape i.source k
    unfolding core_at
    core_other k ne = ap (λ (l : List Float). core_with (left_of s k) (points_of s k) (right_of s k) l) (slot_put_other (core_size s) z xs i.source long source_room k ne)

    core_agree : (k : ℕ) → k < z → zone_at (changed i i.axes source' i.weights) k ≡ zone_at i k
    unfolding zone_at
    core_agree k lt = ap (λ (c : Core). zone c (axis_at i.axes k)) (core_other k (λ e. omega arith))

    core_here : (k : ℕ) → k ≡ z → core_finite i.shape source' k ≡ all_finite xs
    unfolding core_finite core_at
    core_here k e = ap all_finite (ap (λ (j : ℕ). slot (core_size s) j source') e ∙ slot_put_same (core_size s) z xs i.source long source_room)

    core_finite_lem : (k : ℕ) → k < i.shape.d → zone_finite (changed i i.axes source' i.weights) k ≡ part_finite (new_core z xs) k
    unfolding made_finite core_finite
    core_finite_lem k lt =
        let F = fine_zone i k (T.step.ok.fine k lt) in
        let rest = and_yes _ _ F.axis F.weights in
        at_zone k z _ (all_finite xs) (λ e. and_last _ _ rest ∙ core_here k e) (λ ne. and_yes _ _ (ap (λ (c : Core). all_finite c.entries) (core_other k ne) ∙ F.core) rest)

    core_one : replace R (Ok tt) (kept_by T) (new_core z xs) ≡ fresh_run R (Ok tt) (present i (new_core z xs))
    unfolding replace fresh_run part_passes
    core_one =
        let q = new_core z xs in
        let L : Lent (present i q) = record { source = put_length (core_size s) z xs i.source long source_room ∙ lent.source; weights = lent.weights } in
        let F = changed_passes i.axes source' i.weights (part_finite q) (part_ok q) (shifts_ok R (present i q) q) L core_finite_lem (still_mild z) (reach_from_lem i.axes source' i.weights z O.inside core_agree) in
        then_on _ _ _ _ (found_passes R S i T q O ∙ sym F) (sym (work_same R S i T z O.inside i.axes source' i.weights core_agree (λ k lt. refl)))

  -- ---- an axis record; there is a record for each zone
  module _ (all : i.shape.d ≤ length i.axes) (z : ℕ) (a : Axis) (O : InOrder i.shape (new_axis z a)) where
    abbrev axes' : List Axis
    axes' = set i.axes z a

    axis_other : (k : ℕ) → ¬ (k ≡ z) → axis_at axes' k ≡ axis_at i.axes k
    axis_other k ne = get_or-set_other i.axes z k a blank ne

    axis_here : (k : ℕ) → k ≡ z → axis_at axes' k ≡ a
    axis_here k e = let o = O.inside in ap (axis_at axes') e ∙ get_or-set_same i.axes z a blank (omega arith)

    axis_agree : (k : ℕ) → k < z → zone_at (changed i axes' i.source i.weights) k ≡ zone_at i k
    unfolding zone_at
    axis_agree k lt = ap (λ (x : Axis). zone (core_at s i.source k) x) (axis_other k (λ e. omega arith))

    axis_finite_lem : (k : ℕ) → k < i.shape.d → zone_finite (changed i axes' i.source i.weights) k ≡ part_finite (new_axis z a) k
    unfolding made_finite
    axis_finite_lem k lt =
        let F = fine_zone i k (T.step.ok.fine k lt) in
        at_zone k z _ (axis_finite a)
        (λ e. and_first _ _ _ F.core (and_last _ _ F.weights ∙ ap axis_finite (axis_here k e)))
        (λ ne. and_yes _ _ F.core (and_yes _ _ (ap axis_finite (axis_other k ne) ∙ F.axis) F.weights))

    axis_mild : (k : ℕ) → k < i.shape.d → axis_ok (axis_at axes' k) ≡ part_ok (new_axis z a) k
    axis_mild k lt = at_zone k z _ (axis_ok a) (λ e. ap axis_ok (axis_here k e)) (λ ne. ap axis_ok (axis_other k ne) ∙ T.step.ok.axes k lt)

    axis_one : replace R (Ok tt) (kept_by T) (new_axis z a) ≡ fresh_run R (Ok tt) (present i (new_axis z a))
    unfolding replace fresh_run part_passes
    axis_one =
        let q = new_axis z a in
        let L : Lent (present i q) = record { source = lent.source; weights = lent.weights } in
        let F = changed_passes axes' i.source i.weights (part_finite q) (part_ok q) (shifts_ok R (present i q) q) L axis_finite_lem axis_mild (reach_from_lem axes' i.source i.weights z O.inside axis_agree) in
        then_on _ _ _ _ (found_passes R S i T q O ∙ sym F) (sym (work_same R S i T z O.inside axes' i.source i.weights axis_agree (λ k lt. refl)))

  -- ---- weights
  module _ (z : ℕ) (ws : List Float) (O : InOrder i.shape (new_weights z ws)) where
    abbrev weights' : List Float
    weights' = put (point_size i.shape) z ws i.weights

    wide : length ws ≡ point_size i.shape z
    wide = eqb_is (length ws) (point_size s z) O.fits

    weights_room : offset (point_size i.shape) (suc z) ≤ length i.weights
    weights_room = room (point_size s) i.weights lent.weights z O.inside

    weights_other : (k : ℕ) → ¬ (k ≡ z) → points_at i.shape weights' k ≡ points_at i.shape i.weights k
    unfolding points_at
    weights_other k ne = slot_put_other (point_size s) z ws i.weights wide weights_room k ne

    weights_here : (k : ℕ) → k ≡ z → points_at i.shape weights' k ≡ ws
    unfolding points_at
    weights_here k e = ap (λ (j : ℕ). slot (point_size s) j weights') e ∙ slot_put_same (point_size s) z ws i.weights wide weights_room

    weights_agree : (k : ℕ) → zone_at (changed i i.axes i.source weights') k ≡ zone_at i k
    unfolding zone_at
    weights_agree k = refl

    weights_finite : (k : ℕ) → k < i.shape.d → zone_finite (changed i i.axes i.source weights') k ≡ part_finite (new_weights z ws) k
    unfolding made_finite
    weights_finite k lt =
        let F = fine_zone i k (T.step.ok.fine k lt) in
        at_zone k z _ (all_finite ws)
        (λ e. and_first _ _ _ F.core (and_first _ _ _ F.axis (ap all_finite (weights_here k e))))
        (λ ne. and_yes _ _ F.core (and_yes _ _ F.axis (ap all_finite (weights_other k ne) ∙ F.weights)))

    weights_one : replace R (Ok tt) (kept_by T) (new_weights z ws) ≡ fresh_run R (Ok tt) (present i (new_weights z ws))
    unfolding replace fresh_run part_passes
    weights_one =
        let q = new_weights z ws in
        let L : Lent (present i q) = record { source = lent.source; weights = put_length (point_size s) z ws i.weights wide weights_room ∙ lent.weights } in
        let E = each_yes Reach (in_reach_at R (present i q)) i.shape.d 0 (λ k a b. reach_same i.axes i.source weights' k (omega arith) (weights_agree k)) in
        let F = changed_passes i.axes i.source weights' (part_finite q) (part_ok q) (Ok tt) L weights_finite (still_mild z) E in
        then_on _ _ _ _ (found_passes R S i T q O ∙ sym F) (sym (sums_same R S i T z O.inside i.axes i.source weights' weights_agree (λ k lt. weights_other k (λ e. omega arith))))

  pub one_request : i.shape.d ≤ length i.axes → (q : Request) → InOrder i.shape q → replace R (Ok tt) (kept_by T) q ≡ fresh_run R (Ok tt) (present i q)
  one_request all (new_core z xs) O = core_one z xs O
  one_request all (new_axis z a) O = axis_one all z a O
  one_request all (new_weights z ws) O = weights_one z ws O
