-- The shifts as a loop over zones in place, and the scaling behind them. Assumes nothing.
use mathlib.Core.Path.{◌≡◌, refl, sym, ap, ◌∙◌}
use Prim.Native.Nat.{ℕ, ◌+◌, ◌-◌, ◌≤◌, ◌<◌}
use native.Mathlib.Nat.{le_refl}
use native.Mathlib.Omega.{arith}
use mathlib.Core.Bool.{true}
use mathlib.Core.List.{List}
use lib.ListN.{length, take}
use lib.Seq.{take-take}
use lib.Ieee.{Float}
use Rattle.answers.specs.declared.Refusal.{Refusal}
use Rattle.std.specs.Prelude.{Ok, Err}
use Rattle.answers.specs.Outcome.{Answer, bind, answered, Check}
use Rattle.answers.proofs.Outcomes.{answered_ok}
use Rattle.lists.specs.Lists.{listed}
use Rattle.lists.specs.Slots.{offset}
use Rattle.lists.specs.Walks.{every}
use Rattle.lists.proofs.Slots.{offset_mono}
use Rattle.shape.specs.declared.Shape.{Shape}
use Rattle.shape.specs.Shapes.{points_of, core_size}
use Rattle.shape.specs.Cores.{Core, standing}
use Rattle.stepform.specs.declared.Axis.{Axis}
use Rattle.stepform.specs.Axes.{axis_at}
use Rattle.stepform.specs.Shifts.{shift_of, reaches}
use Rattle.stepform.specs.declared.Settings.{Settings}
use Rattle.stepform.specs.Zones.{zone, rules}
use Rattle.stepform.specs.Steps.{shift_zone}
use Rattle.stepform.specs.Call.{reaches_at, axis_reaches}
use Rattle.checks.specs.Over.{Onward, Elsewhere, zone_in, stand_from, Stands, Rooms}
use Rattle.steps.proofs.Scalings.{stand_same}
use Rattle.steps.proofs.Everys.{Left, left_none, left_done, left_stop, left_more}

-- what a call in place asks is met as long as lengths stay
pub stands_on : (s t : Shape) (w v : List Float) → Stands s t w → length v ≡ length w → Stands s t v
stands_on s t w v S e = record { inside = S.inside; within = S.within; long = omega (arith, S.long) }

pub rooms_on : (room block room' block' : List Float) → Rooms room block → length room' ≡ length room → length block' ≡ length block → Rooms room' block'
rooms_on room block room' block' R e f = record { core = omega (arith, R.core); thrice = omega (arith, R.thrice) }

pub reach_of : (set : Settings) (s : Shape) (xs : List Axis) (k : ℕ) (x : Axis)
    → x ≡ axis_at xs k → axis_reaches set s xs k ≡ true → reaches (shift_of x set.tau (points_of s k)) ≡ true
unfolding reaches_at rules
reach_of set s xs k x e h = ap (λ (y : Axis). reaches (shift_of y set.tau (points_of s k))) e ∙ h

pub onward_both : (s : Shape) (z : ℕ) (w v u : List Float) → Onward s z w v → Onward s z v u → Onward s z w u
onward_both s z w v u P Q = record { front = Q.front ∙ P.front; behind = Q.behind ∙ P.behind }

-- ---- one phase after another: r is the verdict of the first, a what it leaves
module _ {A B : Type 0} (o : Answer A) (f : A → Answer B) (r : Check) (a : A) (e : o ≡ answered r a) where
  phase_stops : (q : Refusal) → r ≡ Err q → (b : B) → bind o f ≡ answered (Err q) b
  unfolding answered
  phase_stops q h b = ap (λ (x : Answer A). bind x f) (e ∙ ap (λ (v : Check). answered v a) h)

  phase_goes : r ≡ Ok tt → (p : Answer B) → f a ≡ p → bind o f ≡ p
  unfolding answered
  phase_goes h p g = ap (λ (x : Answer A). bind x f) (e ∙ ap (λ (v : Check). answered v a) h) ∙ g

-- ---- the shifts from zone z on: k is the next zone, w what stood there at first and v what stands there now
module _ (s t : Shape) (set : Settings) (xs : List Axis) (z : ℕ) (w : List Float) where
  abbrev pub shifts : Answer (List Core)
  shifts = every (shift_zone rules set) z (listed (s.d - z) z (zone_in s t xs w))

  pub record Shifting (k : ℕ) (v : List Float) : Type 0 where
    pub low : z ≤ k
    pub most : k ≤ s.d
    pub long : length v ≡ length w
    pub onward : Onward s z w v
    pub rest : shifts ≡ Left (shift_zone rules set) s.d z k (zone_in s t xs v) (standing s t v)

  pub shifting_none : z ≤ s.d → Shifting z w
  shifting_none h = record { low = le_refl z; most = h; long = refl; onward = record { front = refl; behind = refl }; rest = left_none (shift_zone rules set) s.d z (zone_in s t xs w) (standing s t w) }

  module _ (k : ℕ) (v : List Float) (S : Shifting k v) where
    shifting_done : s.d ≤ k → shifts ≡ answered (Ok tt) (stand_from s t z v)
    shifting_done l = left_done (shift_zone rules set) s.d z shifts k (zone_in s t xs v) (standing s t v) S.rest S.low l S.most ∙ sym (answered_ok (stand_from s t z v))

    -- what is behind the shifts takes what they left
    pub moving_done : s.d ≤ k → {B : Type 0} (f : List Core → Answer B) (p : Answer B) → f (stand_from s t z v) ≡ p → bind shifts f ≡ p
    moving_done l f p g = phase_goes shifts f (Ok tt) (stand_from s t z v) (shifting_done l) refl p g

    pub onward_on : (u : List Float) → Elsewhere s k v u → Onward s z w u
    onward_on u E =
        let m = offset_mono (core_size s) z k S.low in
        record {
          front = sym (take-take (offset (core_size s) z) (offset (core_size s) k) u m) ∙ ap (take (offset (core_size s) z)) E.onward.front ∙ take-take (offset (core_size s) z) (offset (core_size s) k) v m ∙ S.onward.front;
          behind = E.onward.behind ∙ S.onward.behind;
        }

    -- zone k, whose record is x, has made u of v
    module _ (l : k < s.d) (x : Axis) (a : x ≡ axis_at xs k) (u : List Float) (r : Check) (e : shift_zone rules set k (zone (standing s t v k) x) ≡ answered r (standing s t u k)) where
      here : shift_zone rules set k (zone_in s t xs v k) ≡ answered r (standing s t u k)
      here = ap (λ (y : Axis). shift_zone rules set k (zone (standing s t v k) y)) (sym a) ∙ e

      shifting_stop : (q : Refusal) → r ≡ Err q → (b : List Float) → shifts ≡ answered (Err q) (stand_from s t z b)
      unfolding answered
      shifting_stop q h b = left_stop (shift_zone rules set) s.d z shifts k (zone_in s t xs v) (standing s t v) S.rest l q (here ∙ ap (λ (o : Check). answered o (standing s t u k)) h)

      pub moving_stop : (q : Refusal) → r ≡ Err q → {B : Type 0} (f : List Core → Answer B) (b : B) → bind shifts f ≡ answered (Err q) b
      moving_stop q h f b = phase_stops shifts f (Err q) (stand_from s t z v) (shifting_stop q h v) q refl b

      pub shifting_more : r ≡ Ok tt → length u ≡ length v → Elsewhere s k v u → Shifting (k + 1) u
      shifting_more h same E =
          let still : (j : ℕ) → j < s.d → ¬ (j ≡ k) → standing s t u j ≡ standing s t v j = λ j p n. stand_same s t v u j (E.others j p n) in
          record {
            low = omega (arith, S.low);
            most = omega arith;
            long = same ∙ S.long;
            onward = onward_on u E;
            rest = left_more (shift_zone rules set) s.d z shifts k (zone_in s t xs v) (standing s t v) S.rest l S.low (zone_in s t xs u) (standing s t u)
                (here ∙ ap (λ (o : Check). answered o (standing s t u k)) h ∙ answered_ok (standing s t u k))
                (λ j p q. ap (λ (c : Core). zone c (axis_at xs j)) (still j q (λ n. omega arith)))
                (λ j p. still j (omega arith) (λ n. omega arith));
          }
