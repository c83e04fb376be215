-- A step by its parts: moves in place, then the rounding in place; and what came of it. Assumes nothing.
use mathlib.Core.Path.{◌≡◌, refl, sym, ap, ◌∙◌, subst}
use Prim.Native.Nat.{ℕ, zero, suc, ◌-◌, ◌≤◌, ◌<◌}
use native.Mathlib.Nat.{sub-zero}
use native.Mathlib.Omega.{arith}
use mathlib.Core.List.{List, ◌++◌, map}
use lib.Dec.{ltb}
use lib.ListN.{length, take, drop, replicate, length-map}
use lib.Seq.{length-take-le}
use lib.Ieee.{Float}
use Rattle.numbers.specs.Arithmetic.{plus, times, zero64, one64}
use Rattle.answers.specs.declared.Part.TheVariants.{Entry}
use Rattle.answers.specs.declared.Refusal.{Refusal}
use Rattle.std.specs.Prelude.{Ok, Err}
use Rattle.answers.specs.Outcome.{Answer, bind, making, answered, outcome_of, verdict_of, Check}
use Rattle.answers.proofs.Outcomes.{bind_assoc, bind_cong, bind_ok, ok_inj, err_inj, ok_err}
use Rattle.lists.specs.Lists.{listed, tab}
use Rattle.lists.specs.Slots.{offset, slot, laid, write}
use Rattle.lists.specs.Walks.{every, walk}
use Rattle.lists.specs.Floats.{stored}
use Rattle.lists.proofs.Floats.{making_stored}
use Rattle.lists.proofs.Walks.{All, listed_all, every_all, every_length}
use Rattle.lists.proofs.Slots.{offset_mono, slot_length}
use Rattle.lists.proofs.Tables.{listed_length}
use Rattle.shape.specs.declared.Shape.{Shape}
use Rattle.shape.specs.Limits.{most_axes}
use Rattle.shape.specs.Shapes.{core_size, entries_of}
use Rattle.shape.specs.Sizes.{Inside}
use Rattle.shape.specs.Cores.{Core, standing, reshaped}
use Rattle.shape.proofs.Places.{block_length}
use Rattle.shape.proofs.Insides.{inside_size}
use Rattle.stepform.specs.declared.Axis.{Axis}
use Rattle.stepform.specs.declared.Shift.{Shift}
use Rattle.stepform.specs.declared.Shift.TheVariants.{Stay, By}
use Rattle.stepform.specs.Shifts.{shift_of, shifted, move_core, scaled}
use Rattle.cutform.specs.Bonds.{no_bond}
use Rattle.cutform.specs.Rounding.{Carry, none, Cut, round_core, cores_in, after_cuts}
use Rattle.cutform.specs.Keeping.{Stepped, keep_step, carry_left, round_from}
use Rattle.cutform.proofs.Cuts.{volume}
use Rattle.stepform.specs.declared.Settings.{Settings}
use Rattle.stepform.specs.Zones.{Zone, zones_of, rules}
use Rattle.stepform.specs.Steps.{holding, shift_zone, scale_zone, round_zone, step_from, step}
use Rattle.checks.specs.Over.{zone_in, stand_from, Onward}
use Rattle.steps.proofs.Gathers.{zones_listed}
use Rattle.std.specs.Result.{IfOk}
use Rattle.std.proofs.lemmas.Result.{IfOk-at_ok}
use Rattle.cuts.specs.declared.Walked.{Walked}
use Rattle.cuts.specs.Slots.{held_by}
use Rattle.steps.specs.Held.{step_held, step_of, Ends, Came}
use Rattle.steps.proofs.Traces.{Found, bonds_front, cores_stand}

-- what is held, with another chain
abbrev pub with : Stepped → List Float → Stepped
with h v = record { bonds = h.bonds; chain = v; carries = h.carries }

-- ---- moves, then the rounding of what they left in place
module _ (set : Settings) (s t : Shape) (z : ℕ) (xs : List Axis) where
  abbrev pub moves : List Float → Answer (List Core)
  moves w = bind (every (shift_zone rules set) z (listed (s.d - z) z (zone_in s t xs w))) (λ a. every (scale_zone rules set) z a)

  module _ (h : Stepped) (v : List Float) where
    carry_same : (k : ℕ) → carry_left s t (with h v) k ≡ carry_left s t h k
    unfolding carry_left
    carry_same zero = refl
    carry_same (suc k) = refl

    keep_same : Onward s z h.chain v → (tr : List (Carry × Cut)) → keep_step s z tr (with h v) ≡ keep_step s z tr h
    unfolding keep_step write
    keep_same O tr =
        let l = laid (core_size s) zero64 z (map (λ (r : Carry × Cut). r.1.core.entries) tr) in
        let e : take (offset (core_size s) z) v ++ (l ++ drop (entries_of s) v) ≡ take (offset (core_size s) z) h.chain ++ (l ++ drop (entries_of s) h.chain) =
        ap (λ (x : List Float). x ++ (l ++ drop (entries_of s) v)) O.front ∙ ap (λ (x : List Float). take (offset (core_size s) z) h.chain ++ (l ++ x)) O.behind in
        ap (λ (x : List Float). with (keep_step s z tr h) x) e

    -- r is the verdict on the moves, which leave v
    module _ (r : Check) (m : moves h.chain ≡ answered r (stand_from s t z v)) where
      opened : step_held set s z xs t h ≡ bind (bind (answered r (stand_from s t z v)) (λ b. walk (round_zone rules set s.d) z (carry_left s t h z) b)) (λ tr. Ok (reshaped z t (cores_in tr), keep_step s z tr h))
      unfolding step_held step_from
      opened =
          let E = every (shift_zone rules set) z (listed (s.d - z) z (zone_in s t xs h.chain)) in
          let F : List Core → Answer (List (Carry × Cut)) = λ b. walk (round_zone rules set s.d) z (carry_left s t h z) b in
          ap (λ (o : Answer (List (Carry × Cut))). bind o (λ tr. Ok (reshaped z t (cores_in tr), keep_step s z tr h)))
          (sym (bind_assoc E (λ a. every (scale_zone rules set) z a) F) ∙ ap (λ (o : Answer (List Core)). bind o F) m)

      pub held_stops : (q : Refusal) → r ≡ Err q → step_held set s z xs t h ≡ Err q
      unfolding answered
      held_stops q e = opened ∙ ap (λ (y : Check). bind (bind (answered y (stand_from s t z v)) (λ b. walk (round_zone rules set s.d) z (carry_left s t h z) b)) (λ tr. Ok (reshaped z t (cores_in tr), keep_step s z tr h))) e

      pub held_goes : r ≡ Ok tt → Onward s z h.chain v → (o : Answer (Shape × Stepped)) → round_from set.cutting s z t (with h v) ≡ o → step_held set s z xs t h ≡ o
      unfolding answered round_from round_zone rules
      held_goes e O o g =
          let W : Carry → Answer (List (Carry × Cut)) = λ c. walk (λ (k : ℕ). round_core set.cutting (ltb (suc k) s.d) k) z c (stand_from s t z v) in
          opened
          ∙ ap (λ (y : Check). bind (bind (answered y (stand_from s t z v)) (λ b. walk (round_zone rules set s.d) z (carry_left s t h z) b)) (λ tr. Ok (reshaped z t (cores_in tr), keep_step s z tr h))) e
          ∙ ap (λ (c : Carry). bind (W c) (λ tr. Ok (reshaped z t (cores_in tr), keep_step s z tr h))) (sym (carry_same z))
          ∙ bind_cong (W (carry_left s t (with h v) z)) _ _ (λ tr _. ap (λ (x : Stepped). Ok (reshaped z t (cores_in tr), x)) (sym (keep_same O tr)))
          ∙ g

-- ---- what came of it, by the code's answer
module _ {A B D : Type 0} (k : A → B) (f : D → B) where
  pub verdict_of_lem : (T : Answer A) (o : Answer D) → bind T (λ a. Ok (k a)) ≡ outcome_of o f → verdict_of o ≡ verdict_of T
  unfolding outcome_of
  verdict_of_lem (Ok a) (Ok x) e = refl
  verdict_of_lem (Ok a) (Err q) e = absurd (ok_err e)
  verdict_of_lem (Err r) (Ok x) e = absurd (ok_err (sym e))
  verdict_of_lem (Err r) (Err q) e = ap Err (err_inj (sym e))

  pub value_of : (T : Answer A) (o : Answer D) → bind T (λ a. Ok (k a)) ≡ outcome_of o f → (a : A) → T ≡ Ok a → (x : D) → o ≡ Ok x → k a ≡ f x
  unfolding outcome_of
  value_of (Ok b) (Ok y) e a g x h = ap k (ok_inj (sym g)) ∙ ok_inj e ∙ ap f (ok_inj h)
  value_of (Ok b) (Err q) e a g x h = absurd (ok_err (sym h))
  value_of (Err r) o e a g x h = absurd (ok_err (sym g))

module _ {A B : Type 0} (k : A → B) where
  verdict_after : (T : Answer A) → verdict_of (bind T (λ a. Ok (k a))) ≡ verdict_of T
  verdict_after (Ok a) = refl
  verdict_after (Err r) = refl

-- the moves leave each core its points and all its numbers
module _ (set : Settings) (t : Shape) where
  moved_length : (k : ℕ) (far : Shift) (c : Core) (l : List Float) → length c.entries ≡ volume c → move_core k far c ≡ Ok l → length l ≡ volume c
  unfolding shifted
  moved_length k Stay c l f e = ap length (sym (ok_inj e)) ∙ f
  moved_length k (By ratio boundary) c l f e = ap length (sym (making_stored Entry k (shifted c ratio boundary) l e).0) ∙ block_length c.rl c.n c.rr _

  shift_found : (k : ℕ) (z : Zone) (c : Core) → Found t k z.core → shift_zone rules set k z ≡ Ok c → Found t k c
  unfolding shift_zone rules
  shift_found k z c f e =
      let far = shift_of z.axis set.tau z.core.n in
      let A = bind_ok (move_core k far z.core) (λ l. Ok (holding z.core l)) c e in
      let p = ok_inj A.2 in
      (ap (λ (x : Core). x.n) (sym p) ∙ f.0, ap (λ (x : Core). length x.entries) (sym p) ∙ moved_length k far z.core A.0 f.1 A.1 ∙ ap volume p)

  scale_found : (k : ℕ) (c d : Core) → Found t k c → scale_zone rules set k c ≡ Ok d → Found t k d
  unfolding scale_zone rules scaled
  scale_found zero c d f e =
      let m = map (λ (v : Float). times v (plus one64 (times set.tau set.c))) c.entries in
      let A = bind_ok (making Entry 0 (stored m)) (λ l. Ok (holding c l)) d e in
      let p = ok_inj A.2 in
      let q = (making_stored Entry 0 m A.0 A.1).0 in
      (ap (λ (x : Core). x.n) (sym p) ∙ f.0, ap (λ (x : Core). length x.entries) (sym p) ∙ ap length (sym q) ∙ length-map c.entries _ ∙ f.1 ∙ ap volume p)
  scale_found (suc k) c d f e = let p = ok_inj e in (ap (λ (x : Core). x.n) (sym p) ∙ f.0, ap (λ (x : Core). length x.entries) (sym p) ∙ f.1 ∙ ap volume p)

module _ (set : Settings) (s t : Shape) (xs : List Axis) (h : Stepped) (I : Inside s t) (long : entries_of s ≤ length h.chain) (lefts : length t.left ≡ most_axes) (rights : length t.right ≡ most_axes) where
  abbrev zones : List Zone
  zones = listed (s.d - 0) 0 (zone_in s t xs h.chain)

  step_is : step set xs (tab s.d (standing s t h.chain)) ≡ step_from rules set s.d 0 none zones
  unfolding step
  step_is =
      ap (λ (n : ℕ). step_from rules set n 0 none (zones_of xs 0 (tab s.d (standing s t h.chain)))) (listed_length s.d 0 (standing s t h.chain))
      ∙ ap (step_from rules set s.d 0 none) (zones_listed xs (standing s t h.chain) s.d 0 ∙ ap (λ (m : ℕ). listed m 0 (zone_in s t xs h.chain)) (sym (sub-zero s.d)))

  stand_found : (j : ℕ) → j < s.d → Found t j (standing s t h.chain j)
  unfolding standing core_size
  stand_found j l = (refl, length-take-le (core_size t j) (slot (core_size s) j h.chain) (omega (arith, inside_size s t I j l, slot_length (core_size s) j h.chain (omega (arith, offset_mono (core_size s) (suc j) s.d l, long)))))

  -- the cores that the rounding found
  ready : (tr : List (Carry × Cut)) → step_from rules set s.d 0 none zones ≡ Ok tr
      → (b : List Core) × (length b ≡ s.d) × (All (Found t) 0 b) × (walk (λ (k : ℕ). round_core set.cutting (ltb (suc k) s.d) k) 0 none b ≡ Ok tr)
  unfolding step_from round_zone rules
  ready tr e =
      let A = bind_ok (every (shift_zone rules set) 0 zones) _ tr e in
      let B = bind_ok (every (scale_zone rules set) 0 A.0) _ tr A.2 in
      let Z = listed_all (λ (k : ℕ) (z : Zone). Found t k z.core) (s.d - 0) 0 (zone_in s t xs h.chain) (λ j p q. stand_found j (omega arith)) in
      let F = every_all (shift_zone rules set) (λ (k : ℕ) (z : Zone). Found t k z.core) (Found t) (shift_found set t) 0 zones A.0 Z A.1 in
      let G = every_all (scale_zone rules set) (Found t) (Found t) (scale_found set t) 0 A.0 B.0 F B.1 in
      let n = every_length (scale_zone rules set) 0 A.0 B.0 B.1 ∙ every_length (shift_zone rules set) 0 zones A.0 A.1 ∙ listed_length (s.d - 0) 0 (zone_in s t xs h.chain) ∙ sub-zero s.d in
      (B.0, n, G, B.2)

  module _ (blank : h.bonds ≡ replicate most_axes no_bond) (o : Answer Walked) (work carries : List Float)
      (e : step_held set s 0 xs t h ≡ outcome_of o (λ (x : Walked). (x.shape, held_by x work carries))) where
    abbrev T : Answer (List (Carry × Cut))
    T = step_from rules set s.d 0 none zones

    abbrev kept : List (Carry × Cut) → Shape × Stepped
    kept tr = (reshaped 0 t (cores_in tr), keep_step s 0 tr h)

    abbrev come : Walked → Shape × Stepped
    come x = (x.shape, held_by x work carries)

    plain : bind T (λ tr. Ok (kept tr)) ≡ outcome_of o come
    unfolding step_held carry_left
    plain = e

    pub came_of : IfOk o (λ (x : Walked). Inside s x.shape) → Came (step_of set xs (tab s.d (standing s t h.chain))) s t o work
    came_of inside = record {
      verdict = verdict_of_lem kept come T o plain ∙ ap verdict_of (sym step_is) ∙ sym (verdict_after after_cuts (step set xs (tab s.d (standing s t h.chain))));
      ends = λ a x b g.
          let D = bind_ok (step set xs (tab s.d (standing s t h.chain))) (λ x. Ok (after_cuts x)) a b in
          let tr = D.0 in
          let f = sym step_is ∙ D.1 in
          let k = value_of kept come T o plain tr f x g in
          let shape : x.shape ≡ reshaped 0 t (cores_in tr) = ap (λ (y : Shape × Stepped). y.0) (sym k) in
          let held : held_by x work carries ≡ keep_step s 0 tr h = ap (λ (y : Shape × Stepped). y.1) (sym k) in
          let R = ready tr f in
          let J = IfOk-at_ok (λ (y : Walked). Inside s y.shape) g inside in
          let stand = cores_stand set.cutting s t h I lefts rights R.0 R.1 R.2 tr R.3 (subst (Inside s) shape J) in
          subst (Ends s t x.shape x.bonds work) (ok_inj D.2) (record {
            shape = shape;
            inside = J;
            cores = stand ∙ ap (λ (y : Shape). tab s.d (standing s y (keep_step s 0 tr h).chain)) (sym shape) ∙ ap (λ (y : Stepped). tab s.d (standing s x.shape y.chain)) (sym held);
            said = ap (λ (y : Stepped). y.bonds) held ∙ bonds_front set.cutting s t h I lefts rights R.0 R.1 R.2 tr R.3 blank;
          });
    }
