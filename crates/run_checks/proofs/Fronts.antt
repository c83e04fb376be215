-- What is found in the used room of a slot, and of the shifts from a zone on. Assumes nothing.
use mathlib.Core.Path.{◌≡◌, refl, sym, ap, ◌∙◌}
use Prim.Native.Nat.{ℕ, suc, ◌+◌, ◌-◌, ◌*◌, ◌≤◌, ◌<◌}
use native.Mathlib.Nat.{mul-le-mul, mul-le-mul_right}
use native.Mathlib.Numerals.{add-one}
use native.Mathlib.Omega.{arith}
use mathlib.Core.Bool.{Bool, true, false, cond, not}
use mathlib.Core.List.{List}
use lib.ListN.{length, take, drop}
use lib.Seq.{take-take}
use lib.Ieee.{Float}
use mir.Syntax.{w64}
use mir.Val as val
use Rattle.numbers.specs.Finite.{finite}
use Rattle.answers.specs.declared.Refusal.TheVariants.{Reach}
use Rattle.std.specs.Prelude.{Ok, Err}
use Rattle.answers.specs.Outcome.{Check, ◌then◌, demand, demand_each}
use Rattle.lists.specs.Slots.{offset, slot}
use Rattle.lists.specs.Floats.{all_finite}
use Rattle.lists.proofs.Asked.{test_wrong, test_right}
use Rattle.lists.proofs.Tests.{ltb_yes, ltb_no}
use Rattle.lists.proofs.Slots.{offset_suc, offset_mono}
use Rattle.shape.specs.declared.Shape.{Shape}
use Rattle.shape.specs.Limits.{most_points, most_rank}
use Rattle.shape.specs.Shapes.{left_of, points_of, right_of, shape_ok, core_size, entries_of}
use Rattle.shape.proofs.Shaped.{Shaped, shaped}
use Rattle.stepform.specs.declared.Axis.{Axis}
use Rattle.cutform.specs.Keeping.{rank_among, dropped_among, carry_size}
use Rattle.cutform.proofs.BondSlots.{carry_bond}
use Rattle.sumform.specs.Sums.{sum_size}
use Rattle.product.proofs.Checks.{refuses, passes}
use Rattle.product.proofs.Slotted.{sum_size_lem}
use Rattle.stepform.specs.declared.Settings.{Settings}
use Rattle.stepform.specs.Call.{axis_reaches}
use Rattle.cutform.specs.declared.Bond.{Bond}
use Rattle.runform.specs.Kept.{all_carries, all_sums, left_held, right_held, held_core, held_carry}
use Rattle.runform.specs.Checks.{rank_ok, core_held, carry_held, sums_held, dropped_held}
use Rattle.runform.proofs.KeptRanks.{rank_within, right_within, left_within}

pub front_found : (l : List Float) (at used : ℕ) (b : Bool) → b ≡ all_finite (take (at + used - at) (drop at l)) → b ≡ all_finite (take used (drop at l))
front_found l at used b e = let n : at + used - at ≡ used = omega arith in e ∙ ap (λ (m : ℕ). all_finite (take m (drop at l))) n

-- the first `used` numbers of slot k
module _ (size : ℕ → ℕ) (d k : ℕ) (l : List Float) (lt : k < d) (room : offset size d ≤ length l) (at used : ℕ) (e : at ≡ offset size k) (f : used ≤ size k) where
  front_room : at + used ≤ length l
  front_room = omega (arith, offset_suc size k, offset_mono size (suc k) d lt)

  front_is : take used (drop at l) ≡ take used (slot size k l)
  unfolding slot
  front_is = ap (λ (m : ℕ). take used (drop m l)) e ∙ sym (take-take used (size k) (drop (offset size k) l) f)

-- ---- of a run whose shape and ranks passed
module _ (s : Shape) (bonds : List Bond) (ok : shape_ok s (rank_ok s bonds) ≡ Ok tt) (k : ℕ) (lt : k < s.d) where
  abbrev shp : Shaped s
  shp = shaped s (rank_ok s bonds) ok

  -- the core, of which l and r are the ranks
  module _ (l r : ℕ) (a : l ≡ left_held bonds k) (b : r ≡ right_held s bonds k) where
    abbrev n : ℕ
    n = points_of s k

    wide : l * n ≤ left_of s k * n
    wide = mul-le-mul_right n (omega (arith, (left_within s bonds ok k lt).1))

    small : l * n * r ≤ core_size s k
    unfolding core_size
    small = mul-le-mul wide (omega (arith, (right_within s bonds ok k lt).1))

    pub core_part_fits : val.Fits w64 (l * n)
    core_part_fits = record { fits = omega (arith, mul-le-mul (shp.sizes.left k lt).1 (shp.sizes.axes.points k lt).1, wide) }

    pub core_used_fits : val.Fits w64 (l * n * r)
    core_used_fits =
        let p : l * n ≤ most_rank * most_points = omega (arith, mul-le-mul (shp.sizes.left k lt).1 (shp.sizes.axes.points k lt).1, wide) in
        let q : r ≤ most_rank = omega (arith, (right_within s bonds ok k lt).1, (shp.sizes.right k lt).1) in
        record { fits = omega (arith, mul-le-mul p q) }

    module _ (chain : List Float) (room : entries_of s ≤ length chain) (at : ℕ) (e : at ≡ offset (core_size s) k) where
      pub core_room : at + l * n * r ≤ length chain
      core_room = front_room (core_size s) s.d k chain lt room at (l * n * r) e small

      pub core_found : (x : Bool) → x ≡ all_finite (take (l * n * r) (drop at chain)) → x ≡ core_held s bonds chain k
      unfolding core_held held_core
      core_found x g =
          g
          ∙ ap all_finite (front_is (core_size s) s.d k chain lt room at (l * n * r) e small)
          ∙ ap (λ (m : ℕ). all_finite (take (m * n * r) (slot (core_size s) k chain))) a
          ∙ ap (λ (m : ℕ). all_finite (take (left_held bonds k * n * m) (slot (core_size s) k chain))) b

  -- the carry
  module _ (carries : List Float) (room : all_carries s ≤ length carries) where
    module _ (bond : k + 1 < s.d) where
      abbrev used : ℕ
      used = rank_among bonds k * right_of s k

      few : used ≤ carry_size s k
      few = omega (arith, carry_bond s k bond, mul-le-mul_right (right_of s k) (rank_within s bonds ok k bond).1)

      pub carry_used_fits : val.Fits w64 used
      carry_used_fits = record { fits = omega (arith, mul-le-mul_right (right_of s k) (rank_within s bonds ok k bond).1, mul-le-mul (shp.sizes.right k lt).1 (shp.sizes.right k lt).1) }

      module _ (at : ℕ) (e : at ≡ offset (carry_size s) k) where
        pub carry_room : at + used ≤ length carries
        carry_room = front_room (carry_size s) s.d k carries lt room at used e few

        pub carry_found : (b : Bool) → b ≡ all_finite (take used (drop at carries)) → b ≡ carry_held s bonds carries k
        unfolding carry_held
        carry_found b g =
            g
            ∙ ap all_finite (front_is (carry_size s) s.d k carries lt room at used e few)
            ∙ sym (ap (λ (x : Bool). cond x (all_finite (held_carry s bonds carries k)) true) (ltb_yes (suc k) s.d (omega arith)))

    pub carry_none : s.d ≤ k + 1 → true ≡ carry_held s bonds carries k
    unfolding carry_held
    carry_none l = sym (ap (λ (x : Bool). cond x (all_finite (held_carry s bonds carries k)) true) (ltb_no (suc k) s.d (omega arith)))

  -- the sums, of which there are r
  module _ (sums : List Float) (room : all_sums s ≤ length sums) (at r : ℕ) (e : at ≡ offset (sum_size s) k) (f : r ≡ right_held s bonds k) where
    less : r ≤ sum_size s k
    less = omega (arith, (right_within s bonds ok k lt).1, sum_size_lem s k)

    pub sums_room : at + r ≤ length sums
    sums_room = front_room (sum_size s) s.d k sums lt room at r e less

    pub sums_found : (b : Bool) → b ≡ all_finite (take r (drop at sums)) → b ≡ sums_held s bonds sums k
    unfolding sums_held
    sums_found b g =
        g
        ∙ ap all_finite (front_is (sum_size s) s.d k sums lt room at r e less)
        ∙ ap (λ (m : ℕ). all_finite (take m (slot (sum_size s) k sums))) f

-- ---- the shifts from a zone on: T is the whole check, of which those from k on are left
module _ (set : Settings) (s : Shape) (xs : List Axis) (T : Check) (k : ℕ) (e : T ≡ demand_each Reach (axis_reaches set s xs) (s.d - k) k) where
  abbrev further : Check
  further = demand_each Reach (axis_reaches set s xs) (s.d - (k + 1)) (k + 1)

  module _ (l : k < s.d) (r : Bool) (f : r ≡ axis_reaches set s xs k) where
    next : T ≡ demand r (Reach k) then further
    unfolding demand_each
    next = let z : s.d - k ≡ suc (s.d - (k + 1)) = omega arith in e ∙ rw (z, ← f, add-one)

    pub reach_stops : not r ≡ true → Err (Reach k) ≡ T
    reach_stops h = refuses (demand r (Reach k)) further (Reach k) (test_wrong r r (Reach k) refl h) ∙ sym next

    pub reach_more : not r ≡ false → T ≡ further
    reach_more h = next ∙ sym (passes (demand r (Reach k)) further further (test_right r r (Reach k) refl h) refl)

  pub reach_done : s.d ≤ k → Ok tt ≡ T
  unfolding demand_each
  reach_done l = let z : s.d - k ≡ 0 = omega arith in sym (e ∙ rw z)

pub ruleset reaching = (reach_stops, reach_more, reach_done)

-- what a bond dropped
module _ (s : Shape) (bonds : List Bond) (k : ℕ) where
  pub dropped_found : k + 1 < s.d → (b : Bool) → b ≡ finite (dropped_among bonds k) → b ≡ dropped_held s bonds k
  unfolding dropped_held
  dropped_found l b e = e ∙ sym (ap (λ (x : Bool). cond x (finite (dropped_among bonds k)) true) (ltb_yes (suc k) s.d (omega arith)))

  pub dropped_none : s.d ≤ k + 1 → true ≡ dropped_held s bonds k
  unfolding dropped_held
  dropped_none l = sym (ap (λ (x : Bool). cond x (finite (dropped_among bonds k)) true) (ltb_no (suc k) s.d (omega arith)))

pub ruleset core_fronts = (core_part_fits, core_used_fits, core_room, core_found)

pub ruleset carry_fronts = (carry_used_fits, carry_room, carry_found, carry_none)

pub ruleset sums_fronts = (sums_room, sums_found)
