-- A core in place, at the front of its room: where it ends, what it holds, what a shift or the scaling makes of it, and that the rest stays. Assumes nothing.
use mathlib.Core.Path.{◌≡◌, refl, sym, ap, ◌∙◌, subst}
use Prim.Native.Nat.{ℕ, suc, ◌+◌, ◌≤◌, ◌<◌}
use native.Mathlib.Nat.{mul-le-mul}
use native.Mathlib.Omega.{arith}
use mathlib.Core.Bool.{true}
use mathlib.Core.List.{List, ◌++◌}
use lib.ListN.{length, take, drop, get_or}
use lib.Seq.{take_at, take-take}
use lib.Ieee.{Float}
use Rattle.std.specs.Prelude.{Ok, Err}
use Rattle.answers.specs.Outcome.{Answer, bind, answered, Check}
use Rattle.lists.specs.Slots.{offset, slot}
use Rattle.lists.proofs.Slots.{offset_suc, offset_mono}
use Rattle.shape.specs.declared.Shape.{Shape}
use Rattle.shape.specs.Limits.{most_core}
use Rattle.shape.specs.Shapes.{left_of, points_of, right_of, core_size, entries_of}
use Rattle.shape.specs.Cores.{Core, core_with, standing}
use Rattle.shape.proofs.Offsets.{core_most}
use Rattle.shape.proofs.Insides.{inside_size}
use Rattle.stepform.specs.declared.Axis.{Axis}
use Rattle.stepform.specs.declared.Shift.{Shift}
use Rattle.stepform.specs.Shifts.{shift_of, reaches, move_core, scaled}
use Rattle.shift.specs.Unrolled.{Lent}
use Rattle.stepform.specs.declared.Settings.{Settings}
use Rattle.stepform.specs.Zones.{zone, rules}
use Rattle.stepform.specs.Steps.{holding, shift_zone, scale_zone}
use Rattle.checks.specs.Over.{Elsewhere, Stands, Rooms}
use Rattle.steps.proofs.Fronts.{part_length, anew_other, anew_before, anew_behind, drop_further}

-- a core made of what a call answers
bind_held : (r : Check) (l : List Float) (f : List Float → Core) → bind (answered r l) (λ x. Ok (f x)) ≡ answered r (f l)
unfolding answered
bind_held (Ok _) l f = refl
bind_held (Err q) l f = refl

-- core k has `size` numbers and starts at `at`
module _ (s t : Shape) (w : List Float) (S : Stands s t w) (k : ℕ) (l : k < s.d) (size at : ℕ) (z : size ≡ core_size t k) (a : at ≡ offset (core_size s) k) where
  pub stands_below : k < t.d
  stands_below = subst (λ (n : ℕ). k < n) (sym S.inside.axes) l

  fits : size ≤ core_size s k
  fits = omega (arith, inside_size s t S.inside k l)

  last : offset (core_size s) (suc k) ≤ length w
  last = omega (arith, offset_mono (core_size s) (suc k) s.d l, S.long)

  pub stand_end : at + size ≤ length w
  stand_end = omega (arith, fits, last, offset_suc (core_size s) k)

  pub stand_small : size ≤ most_core
  stand_small = omega (arith, core_most t S.inside.sizes k stands_below)

  pub stand_is : (u : List Float) → standing s t u k ≡ core_with (left_of t k) (points_of t k) (right_of t k) (take size (drop at u))
  unfolding standing slot
  stand_is u =
      ap (core_with (left_of t k) (points_of t k) (right_of t k))
      (sym (ap (λ (n : ℕ). take n (drop at u)) z ∙ ap (λ (n : ℕ). take (core_size t k) (drop n u)) a ∙ sym (take-take (core_size t k) (core_size s k) (drop (offset (core_size s) k) u) (omega (arith, fits)))))

  -- once `held` begins with it
  module _ (held rest : List Float) (e : held ≡ take size (drop at w) ++ rest) where
    pub stand_held : take size held ≡ take size (drop at w)
    stand_held = ap (take size) e ∙ take_at (take size (drop at w)) rest size (part_length at size w stand_end)

    -- what a shift of it asks
    pub stand_lent : (room block : List Float) → Rooms room block → Lent (take size held) (left_of t k) (points_of t k) (right_of t k) (take size (drop at w)) block
    unfolding core_size
    stand_lent room block R =
        let p = S.inside.sizes.axes.points k stands_below in
        let m = mul-le-mul p.1 (S.inside.sizes.right k stands_below).1 in
        let long = part_length at size w stand_end ∙ z in
        record { some = p.0; few = p.1; whole = ap length stand_held ∙ long; long = long; room = omega (arith, m, R.thrice) }

    pub stand_reaches : (set : Settings) (y : Axis) (far : Shift) → far ≡ shift_of y set.tau (points_of t k) → reaches (shift_of y set.tau (points_of s k)) ≡ true → reaches far ≡ true
    stand_reaches set y far f h = ap reaches f ∙ ap (λ (n : ℕ). reaches (shift_of y set.tau n)) (ap (λ (x : List ℕ). get_or x k 0) S.inside.points) ∙ h

  -- v is w with its numbers written anew
  module _ (v : List Float) (same : length v ≡ length w) where
    pub stand_others : v ≡ take at w ++ (take size (drop at v) ++ drop size (drop at w)) → Elsewhere s k w v
    stand_others b =
        let c = part_length at size v (omega (arith, stand_end)) in
        record {
          onward = record {
            front = ap (take (offset (core_size s) k)) b ∙ anew_before (core_size s) k at size (take size (drop at v)) w a fits c last;
            behind = drop_further (offset (core_size s) (suc k)) (entries_of s) v w (offset_mono (core_size s) (suc k) s.d l) (ap (drop (offset (core_size s) (suc k))) b ∙ anew_behind (core_size s) k at size (take size (drop at v)) w a fits c last);
          };
          others = λ j m n. ap (slot (core_size s) j) b ∙ anew_other (core_size s) k at size (take size (drop at v)) w a fits c last j n;
        }

    made : (r : Check) → answered r (core_with (left_of t k) (points_of t k) (right_of t k) (take size (drop at v))) ≡ answered r (standing s t v k)
    made r = ap (answered r) (sym (stand_is v))

    -- `core` is what it held
    pub stand_shifted : (set : Settings) (y : Axis) (far : Shift) (core : List Float) (r : Check) → far ≡ shift_of y set.tau (points_of t k) → core ≡ take size (drop at w)
        → move_core k far (core_with (left_of t k) (points_of t k) (right_of t k) core) ≡ answered r (take size (drop at v)) → shift_zone rules set k (zone (standing s t w k) y) ≡ answered r (standing s t v k)
    unfolding shift_zone rules
    stand_shifted set y far core r f c e =
        let here : Core = core_with (left_of t k) (points_of t k) (right_of t k) core in
        let held : standing s t w k ≡ here = stand_is w ∙ ap (core_with (left_of t k) (points_of t k) (right_of t k)) (sym c) in
        ap (λ (u : Core). bind (move_core k (shift_of y set.tau u.n) u) (λ x. Ok (holding u x))) held
        ∙ ap (λ (u : Shift). bind (move_core k u here) (λ x. Ok (holding here x))) (sym f)
        ∙ ap (λ (o : Answer (List Float)). bind o (λ x. Ok (holding here x))) e
        ∙ bind_held r (take size (drop at v)) (holding here)
        ∙ made r

    pub stand_scaled : (set : Settings) (r : Check) → scaled set.tau set.c (take size (drop at w)) ≡ answered r (take size (drop at v)) → scale_zone rules set 0 (standing s t w k) ≡ answered r (standing s t v k)
    unfolding scale_zone rules
    stand_scaled set r e =
        let here : Core = core_with (left_of t k) (points_of t k) (right_of t k) (take size (drop at w)) in
        ap (λ (u : Core). bind (scaled set.tau set.c u.entries) (λ x. Ok (holding u x))) (stand_is w)
        ∙ ap (λ (o : Answer (List Float)). bind o (λ x. Ok (holding here x))) e
        ∙ bind_held r (take size (drop at v)) (holding here)
        ∙ made r
